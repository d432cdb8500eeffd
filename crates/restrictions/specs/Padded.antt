-- How an ID lies in memory: its bytes stand at the front of its room, and zeros behind them.
use Rattle.std.specs.Prelude.{ℕ, ◌-◌, ◌≤◌, ◌≡◌, IsTrue, List, ◌++◌, length, take, drop, replicate}
use Rattle.std.proofs.Common.{arith, refl}
use Rattle.std.proofs.lemmas.List.{length-take, take-append-drop}
use Rattle.restrictions.specs.declared.ids.Id.TheInside.{Inside}
use Rattle.restrictions.specs.Ids.{is_id}

-- the bytes of an ID
abbrev pub bytes_of : Inside → List ℕ
bytes_of a = take a.size a.room

-- the room is whole, and holds zeros behind the bytes, which are an ID
pub record IsPadded (a : Inside) : Type 0 where
  pub whole : length a.room ≡ 40
  pub fits : a.size ≤ 40
  pub zeros : drop a.size a.room ≡ replicate (40 - a.size) 0
  pub spelled : IsTrue (is_id (bytes_of a))

-- the room that holds these bytes
abbrev pub padded : List ℕ → List ℕ
padded bytes = bytes ++ replicate (40 - length bytes) 0

same_inside : (a : Inside) (room : List ℕ) (size : ℕ) → room ≡ a.room → size ≡ a.size → ◌≡◌ {A = Inside} (record { room = room; size = size }) a
same_inside a room size e f = rw (e, f) refl

-- the bytes of an ID give back how it lies in memory
pub padded-bytes_of : (a : Inside) → IsPadded a → ◌≡◌ {A = Inside} (record { room = padded (bytes_of a); size = length (bytes_of a) }) a
padded-bytes_of a h =
    let fits = h.fits in
    let whole = h.whole in
    let long : length (take a.size a.room) ≡ a.size = omega (arith, length-take a.size a.room, fits, whole) in
    same_inside a (padded (bytes_of a)) (length (bytes_of a)) (rw (long, ← h.zeros) (take-append-drop a.size a.room)) long
