-- The words of a line and their places. Assumes nothing.
use Rattle.std.specs.Prelude.{◌≡◌, ℕ, ◌+◌, List, [], ◌∷◌, ◌++◌, length, drop, Some, None, Option, ◌≢◌}
use Rattle.script.specs.declared.words.Word.{Word}
use Rattle.script.specs.declared.words.Word.TheVariants.{Key, Value}

-- no byte of a text is b
abbrev pub Free : ℕ → List ℕ → Type 0
Free b [] = Unit {0}
Free b (x ∷ xs) = (x ≢ b) × Free b xs

-- what follows a value, by the place of the next key: nothing, or a space and the line from there on
abbrev pub tail_at : List ℕ → Option ℕ → List ℕ
tail_at line None = []
tail_at line (Some p) = 32 ∷ drop p line

-- the line goes on from a place with a key, `=`, a value, and what follows, each where it says
abbrev pub IsField : List ℕ → ℕ → Word → Word → Option ℕ → Type 0
IsField line at (Key p k) (Value q v) next =
    (p ≡ at) × (q ≡ at + length k.now + 1) × Free 61 k.now × Free 32 v.now
    × (drop at line ≡ k.now ++ (61 ∷ (v.now ++ tail_at line next)))
IsField line at (Key p k) (Key q v) next = ⊥
IsField line at (Value p k) v next = ⊥
