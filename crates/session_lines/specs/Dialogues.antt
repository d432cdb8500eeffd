-- How lines are answered, one after another.
use Rattle.std.specs.Prelude.{ℕ, ◌≡◌, ◌+◌, ◌<◌, List, [], ◌∷◌, ◌++◌, length}
use Rattle.restrictions.specs.Commands.{most_bytes}

-- how lines are answered: what a line asks for where things stand so, how they stand after it, which texts reply to it, how
-- many steps that may take, and whether it may want memory
pub record Dialogue (S A : Type 0) : Type 1 where
  pub asked : S → List ℕ → A
  pub next : S → A → S
  pub replies : S → A → List ℕ → Type 0
  pub allows : S → A → ℕ → Type 0
  pub wants : A → Type 0

-- a line that is too long for a command asks for the same as any other such line; and where things stand by the law, so do
-- they after a line, and each line has a reply and some steps that it may take
pub record IsLawful {S A : Type 0} (d : Dialogue S A) (law : S → Type 0) : Type 0 where
  pub alike : (s : S) (a b : List ℕ) → most_bytes < length a → most_bytes < length b → d.asked s a ≡ d.asked s b
  pub stays : (s : S) (line : List ℕ) → law s → law (d.next s (d.asked s line))
  pub replied : (s : S) (line : List ℕ) → law s → (t : List ℕ) × d.replies s (d.asked s line) t
  pub allowed : (s : S) (line : List ℕ) → law s → (n : ℕ) × d.allows s (d.asked s line) n

module _ {S A : Type 0} (d : Dialogue S A) where
  -- how things stand after a line, and after lines
  abbrev pub after_line : S → List ℕ → S
  after_line s line = d.next s (d.asked s line)

  abbrev pub after : S → List (List ℕ) → S
  after s [] = s
  after s (line ∷ lines) = after (after_line s line) lines

  -- a text is the replies to lines, one after another
  abbrev pub Replies : S → List (List ℕ) → List ℕ → Type 0
  Replies s [] t = t ≡ []
  Replies s (line ∷ lines) t =
      (u : List ℕ) × d.replies s (d.asked s line) u
      × ((v : List ℕ) × Replies (after_line s line) lines v × (t ≡ u ++ v))

  -- a number is the sum of steps that each of the lines may take
  abbrev pub Allows : S → List (List ℕ) → ℕ → Type 0
  Allows s [] n = n ≡ 0
  Allows s (line ∷ lines) n =
      (a : ℕ) × d.allows s (d.asked s line) a
      × ((b : ℕ) × Allows (after_line s line) lines b × (n ≡ a + b))

  -- one of the lines may want memory, and a text is the replies to those before it
  pub record WantsMemory (s : S) (lines : List (List ℕ)) (t : List ℕ) : Type 0 where
    pub before : List (List ℕ)
    pub line : List ℕ
    pub later : List (List ℕ)
    pub parts : lines ≡ before ++ line ∷ later
    pub wants : d.wants (d.asked (after s before) line)
    pub replies : Replies s before t
