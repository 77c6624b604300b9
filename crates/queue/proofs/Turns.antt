-- Lists read round their end, and what that says of a queue's contents. Assumes nothing.
use Rattle.std.proofs.Common.{◌≡◌, ℕ, suc, ◌+◌, ◌-◌, ◌%◌, ◌<◌, ◌≤◌, min, true, false, ltb, List, [], ◌∷◌, ◌++◌, length, get_or, take, drop, set, Some, sym, refl, ap, ◌∙◌, ⊎_elim, append_assoc, mod-lt, mod-eq_of_lt, arith}
use native.Mathlib.Nat.{mod_self}
use Rattle.std.specs.List.{slice_get}
use Rattle.std.proofs.lemmas.List.{length-take, length-drop, length-append, length-set, get_or_append_left, get_or-append_right, get_or-drop, get_or-take, set-append_left, set-append_right, drop-set-add, drop-set-lt, take-set-le, take_more, take_more_set, drop_more, take-append-le, take_all, drop_all, nil_from_length, append-nil}
use lib.Seq.{take-set-lt}
use Rattle.std.proofs.lemmas.Option.{slice_get-get_or}
use Rattle.std.proofs.lemmas.Bool.{cases_lt, lt-ltb, le-ltb}
use Rattle.queue.specs.Contents.{contents, turned, around, vacant}
use Rattle.queue.specs.declared.Queue.{Queue}

module _ {X : Type 0} where
  turned_length : (k : ℕ) (xs : List X) → length (turned k xs) ≡ length xs
  turned_length k xs = simp (length-append, length-drop, length-take) (omega arith)

  turned_at : (xs : List X) (k i : ℕ) (d : X) → k < length xs → i < length xs → get_or (turned k xs) i d ≡ get_or xs (around (length xs) k i) d
  turned_at xs k i d hk hi = ⊎_elim
      (λ (lt : i < length xs - k).
      let t : ltb i (length xs - k) ≡ true = lt-ltb _ _ lt in
      let w : i < length (drop k xs) = simp length-drop (omega arith) in
      rw t (get_or_append_left (drop k xs) (take k xs) d i w ∙ get_or-drop k xs i d))
      (λ (ge : length xs - k ≤ i).
      let t : ltb i (length xs - k) ≡ false = le-ltb _ _ ge in
      rw t (get_or-append_right (drop k xs) (take k xs) (length xs - k) i d (length-drop k xs) ge ∙ get_or-take k xs (i - (length xs - k)) d (omega arith)))
      (cases_lt i (length xs - k))

  turned_set : (xs : List X) (k i : ℕ) (x : X) → k < length xs → i < length xs → turned k (set xs (around (length xs) k i) x) ≡ set (turned k xs) i x
  turned_set xs k i x hk hi = ⊎_elim
      (λ (lt : i < length xs - k).
      let t : ltb i (length xs - k) ≡ true = lt-ltb _ _ lt in
      let w : i < length (drop k xs) = simp length-drop (omega arith) in
      let le : k ≤ k + i = omega arith in
      rw (t, drop-set-add k xs i x, take-set-le k xs (k + i) x le) (sym (set-append_left (drop k xs) (take k xs) i x w)))
      (λ (ge : length xs - k ≤ i).
      let t : ltb i (length xs - k) ≡ false = le-ltb _ _ ge in
      let lt : i - (length xs - k) < k = omega arith in
      rw (t, drop-set-lt k xs (i - (length xs - k)) x lt, take-set-lt k xs (i - (length xs - k)) x lt)
      (sym (set-append_right (drop k xs) (take k xs) (length xs - k) i x (length-drop k xs) ge)))
      (cases_lt i (length xs - k))

  -- a front that is asked longer than the list
  clip : (m n : ℕ) (xs : List X) → m ≡ min n (length xs) → take n xs ≡ take m xs
  clip m n xs e = ⊎_elim
      (λ (lt : n < length xs). let same : n ≡ m = omega arith in ap (λ (j : ℕ). take j xs) same)
      (λ (ge : length xs ≤ n). let le : length xs ≤ m = omega arith in take_all n xs ge ∙ sym (take_all m xs le))
      (cases_lt n (length xs))

  -- one place on, what stood first stands last
  turned_next : (xs : List X) (x : X) (k : ℕ) → k < length xs → x ≡ get_or xs k x → turned ((k + 1) % length xs) xs ≡ (drop (k + 1) xs ++ take k xs) ++ x ∷ []
  turned_next xs x k hk read =
      let more : take (k + 1) xs ≡ take k xs ++ x ∷ [] = take_more xs k x hk ∙ ap (λ (y : X). take k xs ++ y ∷ []) (sym read) in
      ⊎_elim
      (λ (lt : k + 1 < length xs).
      let e : (k + 1) % length xs ≡ k + 1 = mod-eq_of_lt lt in
      rw (e, more) (sym (append_assoc (drop (k + 1) xs) (take k xs) (x ∷ []))))
      (λ (ge : length xs ≤ k + 1).
      let e : (k + 1) % length xs ≡ 0 = let s : k + 1 ≡ length xs = omega arith in ap (λ (j : ℕ). j % length xs) s ∙ mod_self (length xs) in
      let none : drop (k + 1) xs ≡ [] = drop_all (k + 1) xs ge in
      rw (e, none) (append-nil xs ∙ sym (take_all (k + 1) xs ge) ∙ more))
      (cases_lt (k + 1) (length xs))

  front_turned : (xs : List X) (x : X) (k len n : ℕ) → k < length xs → x ≡ get_or xs k x → n ≡ min len (length xs) → 0 < n
      → take len (turned k xs) ≡ x ∷ take (n - 1) (turned ((k + 1) % length xs) xs)
  front_turned xs x k len n hk read n_is some =
      let l : length (drop (k + 1) xs ++ take k xs) + 1 ≡ length xs = simp (length-append, length-drop, length-take) (omega arith) in
      let le : n - 1 ≤ length (drop (k + 1) xs ++ take k xs) = omega arith in
      let start : turned k xs ≡ x ∷ (drop (k + 1) xs ++ take k xs) = ap (λ (ys : List X). ys ++ take k xs) (drop_more xs k x hk ∙ ap (λ (y : X). y ∷ drop (k + 1) xs) (sym read)) in
      let n_long : n ≡ min len (length (turned k xs)) = rw turned_length n_is in
      let one : suc (n - 1) ≡ n = omega arith in
      clip n len (turned k xs) n_long ∙ ap (λ (j : ℕ). take j (turned k xs)) (sym one) ∙ ap (take (suc (n - 1))) start
      ∙ ap (λ (ys : List X). x ∷ ys) (sym (take-append-le (n - 1) (drop (k + 1) xs ++ take k xs) (x ∷ []) le)
      ∙ ap (take (n - 1)) (sym (turned_next xs x k hk read)))

  pub contents_length : (q : Queue) (places : List X) → length (contents q places) ≡ min q.len (length places)
  unfolding contents
  contents_length q places = length-take q.len (turned (q.first % length places) places) ∙ ap (min q.len) (turned_length (q.first % length places) places)

  -- reading the contents at a first place that needs no remainder
  contents_at : (q : Queue) (places : List X) → q.first < length places → contents q places ≡ take q.len (turned q.first places)
  unfolding contents
  contents_at q places h = let e : q.first % length places ≡ q.first = mod-eq_of_lt h in rw e refl

  module _ (q : Queue) (places : List X) (n : ℕ) (n_is : n ≡ min q.len (length places)) where
    pub contents_push : (x : X) (at : ℕ) → n < length places → at ≡ around (length places) (q.first % length places) n
        → contents (record { first = q.first % length places; len = n + 1 }) (set places at x) ≡ contents q places ++ x ∷ []
    unfolding contents
    contents_push x at room at_is =
        let k : ℕ = q.first % length places in
        let hk : q.first % length places < length places = mod-lt q.first (omega arith) in
        let hl : q.first % length places < length (set places at x) = rw length-set hk in
        let hn : n < length (turned (q.first % length places) places) = rw turned_length room in
        let same : n ≡ q.len = omega arith in
        contents_at (record { first = q.first % length places; len = n + 1 }) (set places at x) hl
        ∙ ap (λ (a : ℕ). take (n + 1) (turned (q.first % length places) (set places a x))) at_is
        ∙ ap (take (n + 1)) (turned_set places (q.first % length places) n x hk room)
        ∙ take_more_set (turned (q.first % length places) places) n x hn
        ∙ ap (λ (j : ℕ). take j (turned (q.first % length places) places) ++ x ∷ []) same

    pub contents_full : n ≡ length places → ltb (length (contents q places)) (length places) ≡ false
    contents_full full = le-ltb _ _ (rw contents_length (omega arith))

    pub contents_room : n < length places → ltb (length (contents q places)) (length places) ≡ true
    contents_room room = lt-ltb _ _ (rw contents_length (omega arith))

    pub contents_none : n ≡ 0 → contents q places ≡ []
    contents_none e = nil_from_length (contents q places) (rw contents_length (omega arith))

    -- the item that is read at the first place stands before what is left when the first place has moved on by one
    pub contents_pop : (x : X) → 0 < n → x ≡ get_or places (q.first % length places) x
        → contents q places ≡ x ∷ contents (record { first = q.first % length places + 1; len = n - 1 }) places
    unfolding contents
    contents_pop x some read =
        let hk : q.first % length places < length places = mod-lt q.first (omega arith) in
        front_turned places x (q.first % length places) q.len n hk read n_is some

    pub contents_nth : (x : X) (i at : ℕ) → i < n → at ≡ around (length places) (q.first % length places) i → x ≡ get_or places at x
        → Some x ≡ slice_get (contents q places) i
    unfolding contents
    contents_nth x i at h at_is read =
        let hk : q.first % length places < length places = mod-lt q.first (omega arith) in
        let hi : i < length places = omega arith in
        let hl : i < q.len = omega arith in
        let hc : i < length (contents q places) = rw contents_length (omega arith) in
        let there : get_or (contents q places) i x ≡ x =
        get_or-take q.len (turned (q.first % length places) places) i x hl ∙ turned_at places (q.first % length places) i x hk hi
        ∙ ap (λ (j : ℕ). get_or places j x) (sym at_is) ∙ sym read in
        sym (slice_get-get_or (contents q places) i x hc ∙ ap Some there)

  pub contents_vacant : (places : List X) → contents vacant places ≡ []
  unfolding contents
  contents_vacant places = refl

  pub contents_cleared : (q : Queue) (places : List X) → q ≡ vacant → contents q places ≡ []
  contents_cleared q places e = ap (λ (p : Queue). contents p places) e ∙ contents_vacant places
