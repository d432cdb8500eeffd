-- Words of a line, which one or more spaces part. 32 is the space; every other byte, a tab too, is one of a word.
use Rattle.std.specs.Prelude.{ℕ, ◌-◌, Bool, ◌==◌, nat_lt, List, length, drop}
use Rattle.std.specs.List.{filter, position_or_len, prefix_len, slice_split, suffix_len}

abbrev pub is_space : ℕ → Bool
is_space b = b == 32

-- the words of a line: of the parts between spaces those that have bytes
abbrev pub words_of : List ℕ → List (List ℕ)
words_of line = filter (λ part. nat_lt 0 (length part)) (slice_split is_space line)

-- a text behind the spaces in front
abbrev pub after_spaces : List ℕ → List ℕ
after_spaces text = drop (prefix_len is_space text) text

-- a text behind the word in front
abbrev pub after_word : List ℕ → List ℕ
after_word text = drop (position_or_len is_space text) text

-- a line behind its first word and the spaces behind that
abbrev pub after_first_word : List ℕ → List ℕ
after_first_word line = after_spaces (after_word (after_spaces line))

-- where in a line that rest begins: the length of what stands before it
abbrev pub rest_start : List ℕ → ℕ
rest_start line = length line - length (after_first_word line)

-- where in a line the spaces at its end begin
abbrev pub rest_end : List ℕ → ℕ
rest_end line = length line - suffix_len is_space line
