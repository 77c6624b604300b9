-- One step of going back round the ring. Assumes nothing.
use Rattle.std.proofs.Common.{◌≡◌, ℕ, suc, ◌-◌, ◌<◌, true, false, List, sym, ap, ◌∙◌, arith}
use Rattle.vote.specs.Mask.{has, adding}
use Rattle.journal.specs.Peers.{peer_at}
use Rattle.journal.specs.declared.peer.Peer.{Peer}
use Rattle.turning.specs.Round.{around, count_back}
use Rattle.turning.specs.Steps.{unheard}

module _ (n s v : ℕ) (ps : List Peer) where
  abbrev pub back : ℕ → ℕ → ℕ
  back k gone = unheard v ps (count_back n s k) gone

  pub back_none : (k gone : ℕ) → k ≡ 0 → back k gone ≡ gone
  unfolding count_back unheard
  back_none k gone z = rw z

  past_suc : (k gone : ℕ) → has v (around n s (suc k)) ≡ false → back (suc k) gone ≡ back k gone
  unfolding count_back unheard
  past_suc k gone o = rw o

  heard_suc : (k gone : ℕ) → has v (around n s (suc k)) ≡ true → (peer_at ps (around n s (suc k))).heard ≡ true → back (suc k) gone ≡ gone
  unfolding count_back unheard
  heard_suc k gone o h = rw (o, h)

  gone_suc : (k gone : ℕ) → has v (around n s (suc k)) ≡ true → (peer_at ps (around n s (suc k))).heard ≡ false
      → back (suc k) gone ≡ back k (adding gone (around n s (suc k)))
  unfolding count_back unheard
  gone_suc k gone o h = rw (o, h)

  -- the station r is no member
  pub back_past : (k r gone : ℕ) → 0 < k → r ≡ around n s k → false ≡ has v r → back (k - 1) gone ≡ back k gone
  back_past k r gone some e out =
      let z : k ≡ suc (k - 1) = omega arith in
      let w : r ≡ around n s (suc (k - 1)) = e ∙ ap (around n s) z in
      sym (ap (λ x. back x gone) z ∙ past_suc (k - 1) gone (sym (out ∙ ap (has v) w)))

  -- it is a member, and was heard
  pub back_heard : (k r gone : ℕ) → 0 < k → r ≡ around n s k → true ≡ has v r → (peer_at ps r).heard ≡ true → gone ≡ back k gone
  back_heard k r gone some e held there =
      let z : k ≡ suc (k - 1) = omega arith in
      let w : r ≡ around n s (suc (k - 1)) = e ∙ ap (around n s) z in
      sym (ap (λ x. back x gone) z
      ∙ heard_suc (k - 1) gone (sym (held ∙ ap (has v) w)) (ap (λ x. (peer_at ps x).heard) (sym w) ∙ there))

  -- it is a member, and was not heard
  pub back_gone : (k r gone : ℕ) → 0 < k → r ≡ around n s k → true ≡ has v r → (peer_at ps r).heard ≡ false
      → back (k - 1) (adding gone r) ≡ back k gone
  back_gone k r gone some e held there =
      let z : k ≡ suc (k - 1) = omega arith in
      let w : r ≡ around n s (suc (k - 1)) = e ∙ ap (around n s) z in
      ap (λ x. back (k - 1) (adding gone x)) w
      ∙ sym (ap (λ x. back x gone) z
      ∙ gone_suc (k - 1) gone (sym (held ∙ ap (has v) w)) (ap (λ x. (peer_at ps x).heard) (sym w) ∙ there))
