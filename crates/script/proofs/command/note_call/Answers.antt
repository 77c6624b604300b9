-- Each argument of a note is the one that is written.
use Rattle.std.proofs.Common.{codes, [], refl, rules}
use Rattle.script.proofs.Args.{left_out, follows_tail, free_at, free_a, free_b, free_c, free_d}
use Rattle.script.proofs.Options.{on_each}
use Rattle.script.proofs.command.note_call.Goals as goal

pub returns-in_err-a : goal.returns-in_err-a
returns-in_err-a c =
    rw c.from_residual-in_err-a.ensures
    (λ s x h.
    left_out (codes "at") _ s _ _ _ free_at (follows_tail _ _) c.in_ok-at.ensures h.0 refl (c.in_err-a.ensures x.a _ h.1 refl))

pub returns-in_err-b : goal.returns-in_err-b
returns-in_err-b c =
    rw c.from_residual-in_err-b.ensures
    (λ s x h.
    left_out (codes "at") _ s _ _ _ free_at (follows_tail _ _) c.in_ok-at.ensures h.0 refl
    (left_out (codes "a") _ x.a _ _ _ free_a (follows_tail _ _) c.in_ok-a.ensures h.1 refl (c.in_err-b.ensures x.b _ h.2 refl)))

pub returns-in_err-c : goal.returns-in_err-c
returns-in_err-c c =
    rw c.from_residual-in_err-c.ensures
    (λ s x h.
    left_out (codes "at") _ s _ _ _ free_at (follows_tail _ _) c.in_ok-at.ensures h.0 refl
    (left_out (codes "a") _ x.a _ _ _ free_a (follows_tail _ _) c.in_ok-a.ensures h.1 refl
    (left_out (codes "b") _ x.b _ _ _ free_b (follows_tail _ _) c.in_ok-b.ensures h.2 refl (c.in_err-c.ensures x.c _ h.3 refl))))

pub returns-in_err-d : goal.returns-in_err-d
returns-in_err-d c =
    rw c.from_residual-in_err-d.ensures
    (λ s x h.
    left_out (codes "at") _ s _ _ _ free_at (follows_tail _ _) c.in_ok-at.ensures h.0 refl
    (left_out (codes "a") _ x.a _ _ _ free_a (follows_tail _ _) c.in_ok-a.ensures h.1 refl
    (left_out (codes "b") _ x.b _ _ _ free_b (follows_tail _ _) c.in_ok-b.ensures h.2 refl
    (left_out (codes "c") _ x.c _ _ _ free_c (follows_tail _ _) c.in_ok-c.ensures h.3 refl (c.in_err-d.ensures x.d [] h.4 tt)))))

pub returns : goal.returns
returns c =
    on_each c.end.result
    (λ none s x h.
    left_out (codes "at") _ s _ _ _ free_at (follows_tail _ _) c.in_ok-at.ensures h.0 refl
    (left_out (codes "a") _ x.a _ _ _ free_a (follows_tail _ _) c.in_ok-a.ensures h.1 refl
    (left_out (codes "b") _ x.b _ _ _ free_b (follows_tail _ _) c.in_ok-b.ensures h.2 refl
    (left_out (codes "c") _ x.c _ _ _ free_c (follows_tail _ _) c.in_ok-c.ensures h.3 refl
    (left_out (codes "d") _ x.d _ _ _ free_d (follows_tail _ _) c.in_ok-d.ensures h.4 tt none)))))
    (λ k p. search rules) c.end.ensures
