-- What was given is settled, and what was taken is done with: one call after another.
use Rattle.std.proofs.Common.{◌≡◌, ◌⊎◌, ℕ, List, [], ◌++◌, Option, None, Some, refl, sym, ap, ◌∙◌, subst, inl, inr, append_assoc, append-nil}
use Rattle.std.proofs.lemmas.List.{append_cancel_left}
use Rattle.std.proofs.lemmas.List.Elements.{All-nil, All-append}
use Rattle.std.specs.List.{All}
use mathlib.Core.List.{IsPrefix}
use Rattle.board.specs.Passes.{BoardName, BoardPass, half_of, lock_at}
use Rattle.bucket.specs.Histories.{Step, Inserts, Takes, Retires, Cuts}
use Rattle.bucket.specs.declared.id.Id.{Id}
use Rattle.pool.proofs.Growing.{grows_at}
use Rattle.pool.proofs.SeenStill.{settled_still, settled_before, done_still}
use Rattle.pool.specs.Growth.{Grows, IsLawful}
use Rattle.pool.specs.Handling.{IsLeftOut, IsTakeDone, Handles}
use Rattle.pool.specs.Seen.{IsSettled, IsDone}
use Rattle.strip_model.specs.declared.end.End.{End}
use Rattle.strip_model.specs.declared.end.End.TheVariants.{Forward, Backward}
use Rattle.pass_weight.proofs.Totals.{all_map}

-- ---- what was added

module _ {A : Type 0} where
  pub added_none : (old new more : List A) → new ≡ old → new ≡ old ++ more → more ≡ []
  added_none old new more same is = sym (append_cancel_left old [] more (append-nil old ∙ sym same ∙ is))

  pub added_these : (old new some more : List A) → new ≡ old ++ some → new ≡ old ++ more → more ≡ some
  added_these old new some more these is = append_cancel_left old more some (sym is ∙ these)

  -- in two goes
  added_both : (old mid new more : List A) → (p : IsPrefix old mid) (q : IsPrefix mid new) → new ≡ old ++ more → more ≡ p.0 ++ q.0
  added_both old mid new more p q is =
      added_these old new (p.0 ++ q.0) more (sym q.1 ∙ ap (λ (l : List A). l ++ q.0) (sym p.1) ∙ append_assoc old p.0 q.0) is

-- ---- that a taken label is done with

take_weaker : (b : BoardName) (p q : BoardPass) (k l : Option Id) → ((id : Id) → IsLeftOut k id ⊎ IsDone b p id → IsLeftOut l id ⊎ IsDone b q id) → (e : End) (n : ℕ) (s : Step)
    → IsTakeDone b p k e n s → IsTakeDone b q l e n s
take_weaker b p q k l w e n (Inserts id path) h = tt
take_weaker b p q k l w e n (Takes id) h = w (record { end = e; bucket = n; index = id }) h
take_weaker b p q k l w e n (Retires id by) h = tt
take_weaker b p q k l w e n (Cuts id) h = tt

-- ---- nothing was given or taken

pub ids_grow : (p q : BoardPass) → Grows p q → (e : End) → IsPrefix (half_of p e).ids (half_of q e).ids
ids_grow p q g Forward = g.forward.ids
ids_grow p q g Backward = g.backward.ids

pub handles_none : (b : BoardName) (l : Option Id) (p q : BoardPass) → ((e : End) → (half_of q e).ids ≡ (half_of p e).ids)
    → ((e : End) (k : ℕ) → (lock_at q e k).own ≡ (lock_at p e k).own) → Handles b l p q
handles_none b l p q ids own = record {
  given = λ e more is.
      subst (All (λ id. IsLeftOut l id ⊎ IsSettled p q id)) (sym (added_none (half_of p e).ids (half_of q e).ids more (ids e) is)) (All-nil _);
  taken = λ e k more is.
      subst (All (IsTakeDone b q l e k)) (sym (added_none (lock_at p e k).own (lock_at q e k).own more (own e k) is)) (All-nil _);
}

pub handles_self : (b : BoardName) (l : Option Id) (p : BoardPass) → Handles b l p p
handles_self b l p = handles_none b l p p (λ e. refl) (λ e k. refl)

-- ---- one after another

pub handles_trans : (b : BoardName) (l : Option Id) (p q r : BoardPass) → Grows p q → Grows q r → IsLawful b q r → Handles b l p q → Handles b l q r → Handles b l p r
handles_trans b l p q r g h lawful first next = record {
  given = λ e more is.
      let i = ids_grow p q g e in
      let j = ids_grow q r h e in
      subst (All (λ id. IsLeftOut l id ⊎ IsSettled p r id)) (sym (added_both (half_of p e).ids (half_of q e).ids (half_of r e).ids more i j is))
      (All-append (λ id. IsLeftOut l id ⊎ IsSettled p r id) i.0 j.0
      (all_map (λ id. IsLeftOut l id ⊎ IsSettled p q id) (λ id. IsLeftOut l id ⊎ IsSettled p r id) i.0
      (λ id before. elim before [ inl out ↦ inl out | inr settled ↦ inr (settled_still q r h p id settled) ])
      (first.given e i.0 (sym i.1)))
      (all_map (λ id. IsLeftOut l id ⊎ IsSettled q r id) (λ id. IsLeftOut l id ⊎ IsSettled p r id) j.0
      (λ id after. elim after [ inl out ↦ inl out | inr settled ↦ inr (settled_before p q g r id settled) ])
      (next.given e j.0 (sym j.1))));
  taken = λ e k more is.
      let i = (grows_at p q g e k).own in
      let j = (grows_at q r h e k).own in
      subst (All (IsTakeDone b r l e k)) (sym (added_both (lock_at p e k).own (lock_at q e k).own (lock_at r e k).own more i j is))
      (All-append (IsTakeDone b r l e k) i.0 j.0
      (all_map (IsTakeDone b q l e k) (IsTakeDone b r l e k) i.0
      (take_weaker b q r l l (λ id before. elim before [ inl out ↦ inl out | inr done ↦ inr (done_still q r h b lawful id done) ]) e k)
      (first.taken e k i.0 (sym i.1)))
      (next.taken e k j.0 (sym j.1)));
}

-- where none is left out, one may be
pub handles_loose : (b : BoardName) (l : Option Id) (p q : BoardPass) → Handles b None p q → Handles b l p q
handles_loose b l p q h = record {
  given = λ e more is.
      all_map (λ id. ⊥ ⊎ IsSettled p q id) (λ id. IsLeftOut l id ⊎ IsSettled p q id) more
      (λ id one. elim one [ inl out ↦ absurd out | inr settled ↦ inr settled ]) (h.given e more is);
  taken = λ e k more is.
      all_map (IsTakeDone b q None e k) (IsTakeDone b q l e k) more
      (take_weaker b q q None l (λ id one. elim one [ inl out ↦ absurd out | inr done ↦ inr done ]) e k) (h.taken e k more is);
}

-- where the one that was left out is settled and done with, none is
pub handles_tight : (b : BoardName) (id : Id) (p q : BoardPass) → Handles b (Some id) p q → IsSettled p q id → IsDone b q id → Handles b None p q
handles_tight b id p q h settled done = record {
  given = λ e more is.
      all_map (λ i. (i ≡ id) ⊎ IsSettled p q i) (λ i. ⊥ ⊎ IsSettled p q i) more
      (λ i one. elim one [ inl same ↦ inr (subst (IsSettled p q) (sym same) settled) | inr it ↦ inr it ]) (h.given e more is);
  taken = λ e k more is.
      all_map (IsTakeDone b q (Some id) e k) (IsTakeDone b q None e k) more
      (take_weaker b q q (Some id) None (λ i one. elim one [ inl same ↦ inr (subst (IsDone b q) (sym same) done) | inr it ↦ inr it ]) e k)
      (h.taken e k more is);
}
