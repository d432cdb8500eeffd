-- The document of a file.
use Rattle.std.proofs.Common.{◌≡◌, ℕ, List, Some, None, Ok, Err, inl, inr, refl}
use Rattle.std.specs.Str.{IsUtf8, is_utf8}
use Rattle.std.proofs.lemmas.Bool.{cases_Bool}
use Rattle.std.proofs.lemmas.Str.{IsUtf8-from_is_utf8, is_utf8-from_IsUtf8}
use Rattle.toml.specs.Data.{Members}
use Rattle.toml.specs.Parse.{parse_document}
use Rattle.stock_tables.specs.declared.StockFault.TheVariants as fault
use Rattle.stock_tables.specs.StockFile.{document_of}

pub document_of-some : (bytes : List ℕ) (m : Members) → IsUtf8 bytes → parse_document bytes ≡ Some m → document_of bytes ≡ Ok m
document_of-some bytes m text parsed = rw (is_utf8-from_IsUtf8 bytes text, parsed) refl

pub document_of-none : (bytes : List ℕ) → (IsUtf8 bytes → parse_document bytes ≡ None) → document_of bytes ≡ Err fault.NotToml
document_of-none bytes refused =
    elim (cases_Bool (is_utf8 bytes)) [
      | inl good ↦ rw (good, refused (IsUtf8-from_is_utf8 bytes good)) refl
      | inr bad ↦ rw bad refl
    ]
