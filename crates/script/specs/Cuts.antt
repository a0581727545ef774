-- What it means to cut a text at a byte, a line into words and a word into parts.
use Rattle.std.specs.Prelude.{◌≡◌, ℕ, ◌<◌, ◌+◌, List, [], ◌∷◌, ◌++◌, length, Some, None, Option, ◌≢◌, slice_index}

-- no byte of the text is b
abbrev pub Lacks : ℕ → List ℕ → Type 0
Lacks b text = (k : ℕ) → k < length text → slice_index text k ≢ b

-- w is the next word of a line, of which this is left before and after; there is a space between two words
abbrev pub Next : Option (List ℕ) → List ℕ → Option (List ℕ) → Type 0
Next None w after = ⊥
Next (Some text) w None = Lacks 32 text × (w ≡ text)
Next (Some text) w (Some rest) = Lacks 32 w × (text ≡ w ++ (32 ∷ rest))

-- a line has one word more than spaces at most
abbrev pub most_words : Option (List ℕ) → ℕ
most_words None = 0
most_words (Some text) = length text + 1

-- w is `kind(first,second)`
abbrev pub Parts : List ℕ → List ℕ → List ℕ → List ℕ → Type 0
Parts w kind first second =
    Lacks 40 kind × Lacks 44 first × (w ≡ kind ++ (40 ∷ (first ++ (44 ∷ (second ++ (41 ∷ []))))))
