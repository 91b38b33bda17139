-- Names of labels: when two are the same.
use Rattle.std.proofs.Common.{◌≡◌, ◌≢◌, ℕ, ◌⊎◌, true, false, ◌&&◌, ◌==◌, refl, sym, ◌∙◌, ap, inl, inr, true≢false}
use Rattle.std.proofs.lemmas.Bool.{cases_Bool, cases_eq, and_parts, and_from, eqb-true, eq-eqb, false_from_ne_true}
use Rattle.bucket.specs.declared.id.Id.{Id}
use Rattle.label_core.specs.Ids.{same_id}
use Rattle.proof_log.specs.Labels.{same_end}
use Rattle.strip_model.specs.declared.end.End.{End}
use Rattle.strip_model.specs.declared.end.End.TheVariants.{Forward, Backward}

pub same_end_same : (e : End) → same_end e e ≡ true
same_end_same Forward = refl
same_end_same Backward = refl

pub same_end-true : (e f : End) → same_end e f ≡ true → e ≡ f
same_end-true Forward Forward h = refl
same_end-true Backward Backward h = refl
same_end-true Forward Backward h = absurd (true≢false (sym h))
same_end-true Backward Forward h = absurd (true≢false (sym h))

pub Forward≢Backward : Forward ≢ Backward
Forward≢Backward h = true≢false (ap (same_end Forward) h)

pub cases_end : (e f : End) → (e ≡ f) ⊎ (e ≢ f)
cases_end e f = elim (cases_Bool (same_end e f)) [
  | inl same ↦ inl (same_end-true e f same)
  | inr other ↦ inr (λ h. true≢false (sym (same_end_same e) ∙ ap (same_end e) h ∙ other))
]

-- one bucket of one side, or two
pub cases_bucket : (e f : End) (b c : ℕ) → ((e ≡ f) × (b ≡ c)) ⊎ (e ≡ f → c ≢ b)
cases_bucket e f b c = elim (cases_end e f) [
  | inl same ↦ elim (cases_eq b c) [ inl one ↦ inl (same, one) | inr two ↦ inr (λ h k. two (sym k)) ]
  | inr other ↦ inr (λ h k. other h)
]

pub Id_is : (a b : Id) → a.end ≡ b.end → a.bucket ≡ b.bucket → a.index ≡ b.index → a ≡ b
Id_is a b h k l = λ i. record { end = h i; bucket = k i; index = l i }

pub same_id-true : (a b : Id) → same_id a b ≡ true → a ≡ b
same_id-true a b h =
    let p = and_parts (same_end a.end b.end) (◌&&◌ (◌==◌ a.bucket b.bucket) (◌==◌ a.index b.index)) h in
    let q = and_parts (◌==◌ a.bucket b.bucket) (◌==◌ a.index b.index) p.1 in
    Id_is a b (same_end-true a.end b.end p.0) (eqb-true a.bucket b.bucket q.0) (eqb-true a.index b.index q.1)

pub same_id_same : (a : Id) → same_id a a ≡ true
same_id_same a =
    and_from (same_end a.end a.end) (◌&&◌ (◌==◌ a.bucket a.bucket) (◌==◌ a.index a.index)) (same_end_same a.end)
    (and_from (◌==◌ a.bucket a.bucket) (◌==◌ a.index a.index) (eq-eqb a.bucket a.bucket refl) (eq-eqb a.index a.index refl))

pub same_id-other : (a b : Id) → a ≢ b → same_id a b ≡ false
same_id-other a b d = false_from_ne_true (same_id a b) (λ h. d (same_id-true a b h))

pub cases_id : (a b : Id) → (a ≡ b) ⊎ (a ≢ b)
cases_id a b = elim (cases_Bool (same_id a b)) [
  | inl same ↦ inl (same_id-true a b same)
  | inr other ↦ inr (λ h. true≢false (sym (same_id_same a) ∙ ap (same_id a) h ∙ other))
]
