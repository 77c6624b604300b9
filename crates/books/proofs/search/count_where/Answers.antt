-- That the elements that pass are counted, and that their number fits.
use Rattle.std.proofs.Common.{◌≡◌, ℕ, ◌^◌, ◌-◌, ◌≤◌, Bool, true, false, cond, sym, ap, ◌∙◌, subst, rules, tests, arith}
use Rattle.std.specs.Fn.{FnReturnsAt}
use Rattle.std.proofs.lemmas.Iterator.{YieldsList-from_slice, YieldsList-from_map}
use Rattle.std.proofs.lemmas.Iterator.Adapters.{fits_from_length, at_most_from_yields_List}
use Rattle.std.proofs.lemmas.Iterator.Consumers.{sum_by_from_yields_List}
use Rattle.books.proofs.search.count_where.Goals as goal

at_most_one : (b : Bool) → cond b 1 0 ≤ 1
at_most_one true = omega arith
at_most_one false = omega arith

pub sum-requires-clause-fits : goal.sum-requires-clause-fits
sum-requires-clause-fits g c =
    fits_from_length _ _ (2 ^ 64 - 1) (2 ^ 64) (at_most_from_yields_List (YieldsList-from_slice c.args.items.now cc) (omega (arith, c.iter.ensures.bound)))
    c.map.ensures.closure (omega arith) (λ x r q k.
    let h : (b : Bool) × FnReturnsAt g.F.Fn c.args.test x.now b × (r ≡ cond b 1 0) = search (rules, tests) in
    (search (rules, tests), subst (λ n. n ≤ 1) (sym h.2) (at_most_one h.0)))

pub returns : goal.returns
returns g c =
    λ p tells.
    let one : g.row.T.Denot → ℕ = λ x. cond (p x) 1 0 in
    let counted =
    sum_by_from_yields_List one c.args.items.now c.map.result _ c.sum.ensures.ran
    (YieldsList-from_map _ one (YieldsList-from_slice c.args.items.now cc) c.map.ensures.closure (λ x r q k.
    let h : (b : Bool) × FnReturnsAt g.F.Fn c.args.test x.now b × (r ≡ cond b 1 0) = search (rules, tests) in
    (search (rules, tests), h.2 ∙ ap (λ b. cond b 1 0) (tells x.now h.0 h.1)))) in
    omega (arith, counted)
