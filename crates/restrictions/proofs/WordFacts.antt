-- The words of a text, one after another, and where a text begins and ends.
use Rattle.std.proofs.Common.{◌≡◌, ◌≤◌, ◌<◌, ◌+◌, ◌-◌, ℕ, suc, List, [], ◌∷◌, true, false, not, ltb, length, get_or, take, drop, reverse, refl, sym, ap, ◌∙◌, arith, inl, inr}
use Rattle.std.proofs.lemmas.Bool.{cases_Bool, cases_lt, true≢false, lt-ltb}
use Rattle.std.proofs.lemmas.List.{drop-drop, drop_all, drop_more, get_or-drop, get_or-reverse, length-drop, length-take-le, take_all}
use Rattle.std.proofs.lemmas.List.Splits.{slice_split-cons_yes, slice_split_first, slice_split_none}
use Rattle.std.proofs.lemmas.List.Sums.{fails_before_first, passes_at_first, prefix_len-le-length, prefix_len_passes, prefix_len_stops}
use Rattle.std.specs.List.{filter, position_or_len, prefix_len, suffix_len}
use Rattle.restrictions.specs.Words.{after_first_word, after_spaces, after_word, is_space, rest_end, rest_start, words_of}

-- a space in front changes no word
words_of-space : (b : ℕ) (text : List ℕ) → is_space b ≡ true → words_of (b ∷ text) ≡ words_of text
words_of-space b text e = ap (λ (parts : List (List ℕ)). filter (λ part. ltb 0 (length part)) parts) (slice_split-cons_yes is_space b text e)

drop-one : (n b : ℕ) (text : List ℕ) → drop (1 + n) (b ∷ text) ≡ drop n text
drop-one n b text = let next : 1 + n ≡ suc n = omega arith in rw next refl

after_spaces-space : (b : ℕ) (text : List ℕ) → is_space b ≡ true → after_spaces (b ∷ text) ≡ after_spaces text
after_spaces-space b text e = rw e (drop-one (prefix_len is_space text) b text)

after_spaces-word : (b : ℕ) (text : List ℕ) → is_space b ≡ false → after_spaces (b ∷ text) ≡ b ∷ text
after_spaces-word b text e = rw e refl

-- nor do several
pub words_of-after_spaces : (text : List ℕ) → words_of (after_spaces text) ≡ words_of text
words_of-after_spaces [] = refl
words_of-after_spaces (b ∷ text) = elim (cases_Bool (is_space b)) [
  | inl e ↦ ap words_of (after_spaces-space b text e) ∙ words_of-after_spaces text ∙ sym (words_of-space b text e)
  | inr e ↦ ap words_of (after_spaces-word b text e)
]

-- what is behind the spaces begins with no space
pub after_spaces-begins : (text : List ℕ) → 0 < length (after_spaces text) → is_space (get_or (after_spaces text) 0 0) ≡ false
after_spaces-begins text some =
    let n = prefix_len is_space text in
    let long = length-drop n text in
    let at : n + 0 ≡ n = omega arith in
    rw get_or-drop (rw at (prefix_len_stops is_space text 0 (omega arith)))

-- so a word is there
word_len-some : (text : List ℕ) → 0 < length text → is_space (get_or text 0 0) ≡ false → 0 < position_or_len is_space text
word_len-some [] some e = absurd (omega arith)
word_len-some (b ∷ text) some e = rw e (omega arith)

pub after_spaces-word_len : (text : List ℕ) → 0 < length (after_spaces text) → 0 < position_or_len is_space (after_spaces text)
after_spaces-word_len text some = word_len-some (after_spaces text) some (after_spaces-begins text some)

-- a text that begins with a word has it and the words behind it
first_of_many : (text : List ℕ) (n : ℕ) → n ≡ position_or_len is_space text → 0 < n → n < length text → words_of text ≡ take n text ∷ words_of (drop n text)
first_of_many text n is some more =
    let long = length-take-le n text (omega arith) in
    let bytes : ltb 0 (length (take n text)) ≡ true = lt-ltb 0 _ (omega arith) in
    let first = rw (← is) at (slice_split_first is_space text 0 (rw is at more)) in
    let space = rw (← is) at (passes_at_first is_space text 0 (rw is at more)) in
    let rest = ap words_of (drop_more text n 0 more) ∙ words_of-space (get_or text n 0) (drop (n + 1) text) space in
    ap (λ (parts : List (List ℕ)). filter (λ part. ltb 0 (length part)) parts) first ∙ rw bytes (ap (λ (ws : List (List ℕ)). take n text ∷ ws) (sym rest))

only_word : (text : List ℕ) (n : ℕ) → n ≡ position_or_len is_space text → 0 < n → length text ≤ n → words_of text ≡ take n text ∷ words_of (drop n text)
only_word text n is some all =
    let within = prefix_len-le-length (λ b. not (is_space b)) text in
    let bytes : ltb 0 (length text) ≡ true = lt-ltb 0 _ (omega arith) in
    let one = slice_split_none is_space text (λ k d l. fails_before_first is_space text k d (omega arith)) in
    rw (take_all n text all, drop_all n text all) (ap (λ (parts : List (List ℕ)). filter (λ part. ltb 0 (length part)) parts) one ∙ rw bytes refl)

pub words_of-first : (text : List ℕ) (n : ℕ) → n ≡ position_or_len is_space text → 0 < n → words_of text ≡ take n text ∷ words_of (drop n text)
words_of-first text n is some = elim (cases_lt n (length text)) [
  | inl more ↦ first_of_many text n is some more
  | inr all ↦ only_word text n is some all
]

-- where there is a word, something is behind the spaces
pub after_spaces-some : (text word : List ℕ) (words : List (List ℕ)) → words_of text ≡ word ∷ words → 0 < length (after_spaces text)
after_spaces-some text word words e = elim (cases_lt 0 (length (after_spaces text))) [
  | inl some ↦ some
  | inr none ↦
      let blank : drop 0 (after_spaces text) ≡ [] = drop_all 0 (after_spaces text) none in
      let no_words : words_of text ≡ [] = sym (words_of-after_spaces text) ∙ ap words_of blank in
      cc
]

-- where a line ends with spaces, each of them is one
in_end : (line : List ℕ) (k : ℕ) → k < length line → length line - k ≤ suffix_len is_space line → is_space (get_or line k 0) ≡ true
in_end line k l h =
    let back = length line - 1 - k in
    let at : length line - 1 - back ≡ k = omega arith in
    let read = get_or-reverse line back 0 (omega arith) in
    let space = prefix_len_passes is_space (reverse line) back 0 (omega arith) in
    rw (read, at) at space

-- what is behind spaces, a word and spaces is what is behind so many bytes
dropped : (line : List ℕ) → (n : ℕ) × (after_first_word line ≡ drop n line)
dropped line =
    let a = prefix_len is_space line in
    let b = position_or_len is_space (drop a line) in
    let c = prefix_len is_space (drop b (drop a line)) in
    (a + (b + c), drop-drop c b (drop a line) ∙ drop-drop (b + c) a line)

rest_before : (line : List ℕ) (n : ℕ) → after_first_word line ≡ drop n line → 0 < length (after_first_word line) → rest_start line < rest_end line
rest_before line n e some =
    let start = rest_start line in
    let long : length (after_first_word line) ≡ length line - n = ap (λ (bs : List ℕ). length bs) e ∙ length-drop n line in
    let first = after_spaces-begins (after_word (after_spaces line)) some in
    let at : n + 0 ≡ start = omega arith in
    let byte : is_space (get_or line start 0) ≡ false = ap is_space (sym (ap (λ (bs : List ℕ). get_or bs 0 0) e ∙ get_or-drop n line 0 0 ∙ ap (λ k. get_or line k 0) at)) ∙ first in
    elim (cases_lt start (rest_end line)) [
      | inl l ↦ l
      | inr l ↦ absurd (true≢false (sym (in_end line start (omega arith) (omega arith)) ∙ byte))
    ]

-- a name behind the first word begins before it ends
pub rest-some : (line : List ℕ) → 0 < length (after_first_word line) → rest_start line < rest_end line
rest-some line some = let n = dropped line in rest_before line n.0 n.1 some
