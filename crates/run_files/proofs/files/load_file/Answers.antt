use Rattle.std.proofs.Common.{rules}
use Rattle.run_files.specs.Files.{file_read}
use Rattle.run_files.proofs.LoadFacts.{IsRead-given, Loads-read, Loads-unfetched}
use Rattle.run_files.proofs.files.load_file.Goals as goal

pub returns-in_err-bytes-clause-loads : goal.returns-in_err-bytes-clause-loads
returns-in_err-bytes-clause-loads g c =
    Loads-unfetched (file_read (g.R.Reader.reading c.args.reader.now) c.args.name.now) (g.S.Shelf.told c.args.shelf.now)
    (g.S.Shelf.told c.fetch_file.new.shelf) c.in_err-bytes.field-0.0 c.from_residual.result (search rules) (rw c.number.ensures at c.in_err-bytes.ensures.loads)

pub returns-clause-table : goal.returns-clause-table
returns-clause-table g c =
    IsRead-given (g.R.Reader.reading c.args.reader.now) c.args.name.now c.in_ok-bytes.bytes.items (g.S.Shelf.told c.args.shelf.now).holds c.read.result
    c.read.ensures.kept c.in_ok-bytes.ensures.bytes (rw c.as_slice.ensures.value at c.read.ensures.reads)

pub returns-clause-loads : goal.returns-clause-loads
returns-clause-loads g c =
    Loads-read (g.R.Reader.reading c.args.reader.now) c.args.name.now c.in_ok-bytes.bytes.items (g.S.Shelf.told c.args.shelf.now)
    (g.S.Shelf.told c.fetch_file.new.shelf) c.in_ok-bytes.bytes c.read.result (g.met.R.Reader.refuses c.args.reader.now c.in_ok-bytes.bytes.items)
    (rw c.number.ensures at c.in_ok-bytes.ensures.loads) c.in_ok-bytes.ensures.bytes (rw c.as_slice.ensures.value at c.read.ensures.reads)
