-- What a new ring is made of: stations one by one, and a voting rule with its laws. Assumes nothing.
use Rattle.std.proofs.Common.{◌≡◌, ℕ, zero, suc, ◌+◌, ◌^◌, ◌<◌, Bool, true, List, [], ◌∷◌, ◌++◌, ap, ◌∙◌, arith}
use Rattle.vote.specs.Mask.{Share, Within, everyone}
use Rattle.station.specs.Model.{Model, new_model}
use Rattle.runs.specs.Rings.{new_stations}
use Rattle.runs.specs.Promises.{Laws}

-- the next station behind those that are made
pub new_more : {S : Type 0} (roll : ℕ) (b : S) (s k : ℕ) → new_stations roll b s k ++ new_model (s + k) roll b ∷ [] ≡ new_stations roll b s (k + 1)
unfolding new_stations
new_more roll b s zero = let e : s + 0 ≡ s = omega arith in ap (λ i. new_model i roll b ∷ []) e
new_more roll b s (suc k) =
    let e : s + suc k ≡ suc s + k = omega arith in
    let f : suc (k + 1) ≡ suc k + 1 = omega arith in
    ap (λ i. new_model s roll b ∷ (new_stations roll b (suc s) k ++ new_model i roll b ∷ [])) e ∙
    (ap (λ (l : List (Model _)). new_model s roll b ∷ l) (new_more roll b (suc s) k) ∙ ap (new_stations roll b s) f)

-- the laws of a voting rule as a rule's trait states them
pub laws_of : (n : ℕ) (vote : ℕ → Bool) → ((v w : ℕ) → vote v ≡ true → vote w ≡ true → Share n v w) →
    ((v w : ℕ) → Within v w → w < 2 ^ n → vote v ≡ true → vote w ≡ true) → vote (everyone n) ≡ true → Laws n vote
laws_of n vote shares grows all = record {
  shares = λ v w _ _ p q. shares v w p q;
  grows = λ v w _ l h p. grows v w h l p;
  all = all;
}
