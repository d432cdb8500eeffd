-- That a session keeps its room, whatever is put and taken.
use Rattle.std.proofs.Common.{◌≡◌, ◌∷◌, ℕ, ◌+◌, ◌-◌, List, [], length, Some, Ok, arith, inl, inr, refl, ap}
use Rattle.std.proofs.lemmas.Bool.{cases_Bool}
use Rattle.std.proofs.lemmas.List.{length-append}
use Rattle.std.proofs.lemmas.Option.{none-some}
use Rattle.incr_envelope.proofs.KeptFacts.{put_in-pairs}
use Rattle.incr_envelope.specs.Envelope.{EnvelopeView, IsFromScratch}
use Rattle.restrictions.proofs.FindFacts.{filter-none}
use Rattle.restrictions.proofs.ForceFacts.{has_id-none}
use Rattle.restrictions.proofs.SeatFacts.{same_from_bytes_eq}
use Rattle.restrictions.specs.Force.{AreDistinct, has_id, put_in, without, zone_of}
use Rattle.unit_rules.specs.declared.Zone.{Zone}
use Rattle.session_replies.specs.Room.{HasRoom}

-- a put takes of the room what it adds to what is in force
pub HasRoom-put : (a b : EnvelopeView) (id : List ℕ) (zone : Zone) → HasRoom a → IsFromScratch b → put_in id zone a.force ≡ Ok b.force → b.spare ≡ a.spare - 1 → HasRoom b
HasRoom-put a b id zone kept scratch put spare =
    let after = ap (λ (ps : List (List ℕ × Zone)). length ps) (put_in-pairs id zone a.force b.force put) in
    let more = length-append a.force ((id, zone) ∷ []) in
    record { scratch = scratch; room = omega (arith, kept.room, kept.scratch.few, after, more, spare) }

-- there is one restriction fewer without an ID that is in force
length-without : (id : List ℕ) (z : Zone) (pairs : List (List ℕ × Zone)) → AreDistinct pairs → zone_of id pairs ≡ Some z → length pairs ≡ length (without id pairs) + 1
length-without id z [] distinct at = absurd (none-some z at)
length-without id z (p ∷ pairs) distinct at = elim (cases_Bool (has_id id p)) [
  | inl here ↦
      let same = same_from_bytes_eq p.0 id here in
      let alone = has_id-none id pairs (rw same at distinct.0) in
      let left : without id (p ∷ pairs) ≡ pairs = rw here (filter-none (has_id id) pairs alone) in
      rw left (omega arith)
  | inr other ↦
      let rest = length-without id z pairs distinct.1 (rw other at at) in
      let left : without id (p ∷ pairs) ≡ p ∷ without id pairs = rw other refl in
      rw left (omega (arith, rest))
]

-- and a take gives back to it what it takes
pub HasRoom-taken : (a b : EnvelopeView) (id : List ℕ) (z : Zone) → HasRoom a → IsFromScratch b → zone_of id a.force ≡ Some z → b.force ≡ without id a.force → b.spare ≡ a.spare + 1 → HasRoom b
HasRoom-taken a b id z kept scratch at taken spare =
    let fewer = length-without id z a.force kept.scratch.distinct at in
    let after = ap (λ (ps : List (List ℕ × Zone)). length ps) taken in
    record { scratch = scratch; room = omega (arith, kept.room, fewer, after, spare) }
