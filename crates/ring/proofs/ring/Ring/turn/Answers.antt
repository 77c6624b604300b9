use Rattle.std.proofs.Common.{◌≡◌, suc, ◌+◌, ◌-◌, ◌%◌, Some, None, vec_items, sym, refl, ap, ◌∙◌, subst, arith, rules}
use Rattle.std.specs.List.{slice_get}
use Rattle.protocol.specs.declared.refusal.Refusal.TheVariants.{WrongTurn}
use Rattle.station.specs.Meaning.{model}
use Rattle.station.specs.Rules.{turn_station}
use Rattle.runs.specs.Rings.{owner}
use Rattle.runs.proofs.Stepping.{turned_ok, turned_err, turn_off, turn_is}
use Rattle.ring.specs.Meaning.{meaning, ruling}
use Rattle.ring.proofs.Calls.{stands, accepts, misses, balks, turn_within, turned_is}
use Rattle.station.proofs.Same.{same_station}
use Rattle.ring.proofs.ring.Ring.turn.Goals as goal

pub returns-in_err-station : goal.returns-in_err-station
returns-in_err-station g c =
    let v = c.args.self.now in
    let R = ruling g.R.VotingRule.size g.R.VotingRule.votes g.B.Book.next v in
    let n = meaning g.B.Book.means g.W.Wire.lines v in
    let o = (v.turn - 1) % c.roll.result in
    let own : o ≡ owner R n = ap (λ k. (v.turn - 1) % k) c.roll.ensures in
    misses o WrongTurn _ _ _ _ c.from_residual.ensures.1 c.in_err-station.ensures.value (λ off. turn_off R n (subst (λ k. slice_get n.stations k ≡ None) own off))

pub returns-in_err-turn : goal.returns-in_err-turn
returns-in_err-turn g c =
    let v = c.args.self.now in
    let R = ruling g.R.VotingRule.size g.R.VotingRule.votes g.B.Book.next v in
    let n = meaning g.B.Book.means g.W.Wire.lines v in
    let m = model g.B.Book.means in
    let o = (v.turn - 1) % c.roll.result in
    let own : o ≡ owner R n = ap (λ k. (v.turn - 1) % k) c.roll.ensures in
    let x = c.in_ok-station.station.now in
    let on = c.in_ok-station.ensures.value in
    let told = c.in_err-turn.ensures in
    balks o x c.turn.new.self _ _ _ on _ _ _ c.from_residual-in_err-turn.ensures.1 refl (same_station x _ told.same.0) told.same.1
    (λ there. turn_is R n (m x) (subst (λ k. slice_get n.stations k ≡ Some (m x)) own there) ∙
    turned_err n (owner R n) (m x) (turn_station g.B.Book.next (g.R.VotingRule.votes v.rule) v.turn (m x)) _ (sym told.value))

pub overflow_add-self : goal.overflow_add-self
overflow_add-self g c =
    let v = c.args.self.now in
    let within = turn_within g.B.Book.next (g.R.VotingRule.votes v.rule) v.turn (model g.B.Book.means c.in_ok-station.station.now) (sym c.in_ok-turn.ensures.value) in
    search rules

pub returns : goal.returns
returns g c =
    let v = c.args.self.now in
    let R = ruling g.R.VotingRule.size g.R.VotingRule.votes g.B.Book.next v in
    let n = meaning g.B.Book.means g.W.Wire.lines v in
    let m = model g.B.Book.means in
    let o = (v.turn - 1) % c.roll.result in
    let own : o ≡ owner R n = ap (λ k. (v.turn - 1) % k) c.roll.ensures in
    let x = c.in_ok-station.station.now in
    let told = c.in_ok-turn.ensures in
    let next : v.turn + 1 ≡ suc v.turn = omega arith in
    accepts _ _ _ refl (turned_is m (vec_items v.stations) o (owner R n) c.turn.new.self _ _ _ _ _ own told.after.station told.after.lines next) refl
    (turn_is R n (m x) (subst (λ k. slice_get n.stations k ≡ Some (m x)) own (stands m (vec_items v.stations) o (Some x) c.in_ok-station.ensures.value)) ∙
    turned_ok n (owner R n) (m x) (turn_station g.B.Book.next (g.R.VotingRule.votes v.rule) v.turn (m x)) (sym told.value))
