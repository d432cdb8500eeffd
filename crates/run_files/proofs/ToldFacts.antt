-- What holds of files or of an input, where they are told.
use Rattle.std.proofs.Common.{Option, Some, None, IfSome}

-- along what is told
pub IfSome-along : {A : Type 0} (o : Option A) (P Q : A → Type 0) → ((a : A) → P a → Q a) → IfSome o P → IfSome o Q
IfSome-along None P Q f h = tt
IfSome-along (Some a) P Q f h = f a h

pub IfSome-both : {A : Type 0} (o : Option A) (P Q R : A → Type 0) → ((a : A) → P a → Q a → R a) → IfSome o P → IfSome o Q → IfSome o R
IfSome-both None P Q R f h k = tt
IfSome-both (Some a) P Q R f h k = f a h k
