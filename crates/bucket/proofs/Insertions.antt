-- What a bucket keeps after each of its calls.
use Rattle.std.proofs.Common.{◌≡◌, ◌≢◌, ℕ, zero, suc, ◌+◌, ◌*◌, ◌<◌, inl, inr, true, List, [], ◌∷◌, length, get_or, set, refl, sym, ap, ◌∙◌, subst, arith, Result, Ok, Err}
use Rattle.std.proofs.lemmas.Bool.{false≢true, true≢false}
use Rattle.std.proofs.lemmas.List.{get_or_read}
use Rattle.std.proofs.lemmas.List.Elements.{All-head, All-tail, All-weaker}
use Rattle.std.specs.List.{All}
use Rattle.std.specs.declared.alloc.AllocError.{AllocError}
use Rattle.antichain.proofs.Changes.{IsAntichainOf-none, kept-exact}
use Rattle.antichain.specs.Antichains.{Row, ids_of, IsAntichainOf, IsMemberOf, Leaves}
use Rattle.antichain.specs.declared.member.Member.{Member}
use Rattle.bucket.proofs.Fronts.{Turns, Turns-cut, Turns-none, Turns-taken, IsFront-less}
use Rattle.bucket.proofs.Kept.{no_row, HasFronts-same, HasFronts-set}
use Rattle.bucket.proofs.Lasts.{last_of-dominates}
use Rattle.bucket.proofs.Leaving as leaving
use Rattle.bucket.proofs.Leaving.{Antichain-leaves, Leaves-cut, Leaves-inserting, Leaves-none, Leaves-taken, held_in-grown, new_ids}
use Rattle.bucket.proofs.Turning.{Turns-retired}
use Rattle.bucket.specs.Buckets.{Bin, held_in, grown, Inserting, Taking, Cutting}
use Rattle.bucket.specs.Fronts.{IsFront, HasFronts, IsKeptBucket}
use Rattle.bucket.specs.Histories.{Step, after_all, replay, Antichain}
use Rattle.bucket.specs.declared.answers.CutAnswer.TheVariants.{Done}
use Rattle.bucket.specs.declared.answers.Inserted.{Inserted}
use Rattle.bucket.specs.declared.answers.Inserted.TheVariants.{Dominated, Live}
use Rattle.bucket.specs.declared.answers.Taken.{Taken}
use Rattle.bucket.specs.declared.answers.Taken.TheVariants.{Label as TheLabel, Gone}
use Rattle.bucket.specs.declared.limits.TheConstants.{BUCKETS, FRONTS}
use Rattle.bucket.specs.declared.refusal.BucketRefusal.{BucketRefusal}
use Rattle.bucket.specs.declared.refusal.BucketRefusal.TheVariants.{Present, Crowded, Memory}
use Rattle.label.specs.Briefs.{IsBriefOf}
use Rattle.label.specs.declared.briefs.Brief.{Brief}
use Rattle.label_list.proofs.Labels.{length-with_state}
use Rattle.label_list.specs.Labels.{Held, IsLive, last_of, path_of, with_state}
use Rattle.label_list.specs.declared.state.State.TheVariants.{Taken as IsTakenNow, Cut as WasCut}
use Rattle.strip_model.proofs.Words.{has_cons_cases, has_head}
use Rattle.strip_model.specs.Directed.{has}
use Rattle.strip_model.specs.Side.{Face}
use Rattle.strip_model.specs.Starts.{Place, place_after}
use Rattle.strip_model.specs.Starts.Place.{Root, After}
use Rattle.strip_set.proofs.Members.{has-tail}

-- ---- what an insertion makes of the labels

-- From labels to labels, where all that died end as the path does.
record Turned (hs gs : List Held) (path : List ℕ) : Type 0 where
  gone : List ℕ
  turns : Turns hs gs path gone
  died : (k : ℕ) → IsLive hs k → has k gone ≡ true → last_of (path_of hs k) ≡ last_of path

Turned-none : (old new : Bin) (path : List ℕ) (steps : List Step) → new ≡ grown old steps → steps ≡ [] → Turned (held_in old) (held_in new) path
Turned-none old new path steps grows none =
    subst (λ (gs : List Held). Turned (held_in old) gs path) (sym (held_in-grown old new steps grows ∙ ap (after_all (held_in old)) none))
    (record { gone = []; turns = Turns-none (held_in old) path; died = λ k live named. absurd (false≢true named) })

Turned-inserting : (old new : Bin) (path : List ℕ) (r : Result Inserted BucketRefusal) → Inserting old new path r
    → Turned (held_in old) (held_in new) path
Turned-inserting old new path (Ok (Dominated id by)) i =
    let next : id ≡ length (held_in old) = i.answer.next in
    subst (λ (gs : List Held). Turned (held_in old) gs path)
    (sym (held_in-grown old new i.steps i.grows ∙ ap (after_all (held_in old)) i.answer.steps_are))
    (record {
      gone = id ∷ [];
      turns = Turns-retired (held_in old) path by (id ∷ []);
      died = λ k live named. elim (has_cons_cases k id [] named) [
        | inl same ↦ let there : k < length (held_in old) = live.there in absurd (omega arith)
        | inr none ↦ absurd (false≢true none)
      ];
    })
Turned-inserting old new path (Ok (Live id retired)) i =
    subst (λ (gs : List Held). Turned (held_in old) gs path)
    (sym (held_in-grown old new i.steps i.grows ∙ ap (after_all (held_in old)) i.answer.steps_are))
    (record {
      gone = i.answer.ids;
      turns = Turns-retired (held_in old) path id i.answer.ids;
      died = λ k live named. sym (last_of-dominates old.side.instance path (path_of (held_in old) k) (i.answer.those.hold k named).dominated);
    })
Turned-inserting old new path (Err (Present id)) i = Turned-none old new path i.steps i.grows i.answer.none
Turned-inserting old new path (Err (Crowded labels)) i = Turned-none old new path i.steps i.grows i.answer.none
Turned-inserting old new path (Err Memory) i = Turned-none old new path i.steps i.grows i.answer

-- ---- the bucket

-- a bucket that grew keeps what its labels keep
IsKeptBucket-grown : (old new : Bin) (steps : List Step) (rows : List Row) → new ≡ grown old steps → Antichain old.side (held_in new)
    → HasFronts old.side old.number (held_in new) rows → IsKeptBucket new rows
IsKeptBucket-grown old new steps rows grows a h =
    let side : new.side ≡ old.side = ap (λ (b : Bin). b.side) grows in
    let number : new.number ≡ old.number = ap (λ (b : Bin). b.number) grows in
    record {
      antichain = subst (λ (S : Face). Antichain S (held_in new)) (sym side) a;
      fronts =
          subst (λ (S : Face). HasFronts S new.number (held_in new) rows) (sym side)
          (subst (λ (n : ℕ). HasFronts old.side n (held_in new) rows) (sym number) h);
    }

-- the antichain of x
pub IsFront-of : (b : Bin) (rows : List Row) (p x : ℕ) (row : Row) → IsKeptBucket b rows → p < FRONTS → x ≡ p * BUCKETS + b.number
    → row ≡ get_or rows p row → IsFront b.side (held_in b) x row.members
IsFront-of b rows p x row k small is read =
    let size : length rows ≡ FRONTS = k.fronts.size in
    let here : get_or rows p no_row ≡ row = sym (get_or_read rows p row (omega arith) read no_row) in
    subst (λ (y : ℕ). IsFront b.side (held_in b) y row.members) (sym is)
    (subst (λ (r : Row). IsFront b.side (held_in b) (p * BUCKETS + b.number) r.members) here (k.fronts.each p small))

-- a bucket after an insertion, with the antichain that it gave
pub IsKeptBucket-inserted : (old new : Bin) (path : List ℕ) (r : Result Inserted BucketRefusal) (rows : List Row) (p : ℕ) (row : Row)
    → Inserting old new path r → last_of path ≡ p * BUCKETS + old.number → p < FRONTS → IsKeptBucket old rows
    → IsFront new.side (held_in new) (last_of path) row.members → IsKeptBucket new (set rows p row)
IsKeptBucket-inserted old new path r rows p row i is small b f =
    let t : Turned (held_in old) (held_in new) path = Turned-inserting old new path r i in
    let side : new.side ≡ old.side = ap (λ (c : Bin). c.side) i.grows in
    IsKeptBucket-grown old new i.steps (set rows p row) i.grows
    (Antichain-leaves old.side (held_in old) (held_in new) path (new_ids r) (Leaves-inserting old new path r i) b.antichain)
    (HasFronts-set old.side old.number p (last_of path) (held_in old) (held_in new) path t.gone rows row t.turns is small refl t.died b.fronts
    (subst (λ (S : Face). IsFront S (held_in new) (last_of path) row.members) side f))

-- a bucket of which no label died, and none is new
IsKeptBucket-left : (old new : Bin) (steps : List Step) (rows : List Row) (hs : List Held) → new ≡ grown old steps → held_in new ≡ hs
    → leaving.Leaves old.side (held_in old) hs [] [] → Turns (held_in old) hs [] [] → length hs ≡ length (held_in old) → IsKeptBucket old rows
    → IsKeptBucket new rows
IsKeptBucket-left old new steps rows hs grows held l t size b =
    IsKeptBucket-grown old new steps rows grows
    (subst (λ (gs : List Held). Antichain old.side gs) (sym held) (Antichain-leaves old.side (held_in old) hs [] [] l b.antichain))
    (subst (λ (gs : List Held). HasFronts old.side old.number gs rows) (sym held)
    (HasFronts-same old.side old.number (held_in old) hs [] rows t
    (λ k past live. let there : k < length hs = live.there in absurd (omega arith)) b.fronts))

-- a bucket to which nothing was done
pub IsKeptBucket-same : (old new : Bin) (steps : List Step) (rows : List Row) → new ≡ grown old steps → steps ≡ [] → IsKeptBucket old rows
    → IsKeptBucket new rows
IsKeptBucket-same old new steps rows grows none b =
    IsKeptBucket-left old new steps rows (held_in old) grows (held_in-grown old new steps grows ∙ ap (after_all (held_in old)) none)
    (Leaves-none old.side (held_in old) []) (Turns-none (held_in old) []) refl b

-- a bucket after a label was asked for
pub IsKeptBucket-taken : (old new : Bin) (id : ℕ) (r : Result Taken AllocError) (rows : List Row) → id < length (held_in old)
    → Taking old new id r → IsKeptBucket old rows → IsKeptBucket new rows
IsKeptBucket-taken old new id (Ok (TheLabel label)) rows there t b =
    IsKeptBucket-left old new t.steps rows (with_state (held_in old) id IsTakenNow) t.grows
    (held_in-grown old new t.steps t.grows ∙ ap (after_all (held_in old)) t.answer.steps_are)
    (Leaves-taken old.side (held_in old) [] id (record { there = there; waits = t.answer.waits }))
    (Turns-taken (held_in old) [] id there t.answer.waits) (length-with_state (held_in old) id IsTakenNow) b
IsKeptBucket-taken old new id (Ok (Gone state)) rows there t b = IsKeptBucket-same old new t.steps rows t.grows t.answer.none b
IsKeptBucket-taken old new id (Err e) rows there t b = IsKeptBucket-same old new t.steps rows t.grows t.answer b

-- ---- cutting

-- the start at a place
abbrev start_in : Place → ℕ
start_in Root = 0
start_in (After s x) = s

-- the member of a label starts as its brief says
pub starts-front : (S : Face) (hs : List Held) (x id : ℕ) (brief : Brief) (ms : List Member) → IsFront S hs x ms
    → IsBriefOf S brief (path_of hs id) → All (λ (m : Member). m.id ≡ id → m.outline.start ≡ brief.start) ms
starts-front S hs x id brief ms f b =
    All-weaker (IsMemberOf S (λ k. path_of hs k)) (λ (m : Member). m.id ≡ id → m.outline.start ≡ brief.start)
    (λ (m : Member) (is : IsMemberOf S (λ k. path_of hs k) m) (same : m.id ≡ id).
    sym (ap start_in is.outline.at)
    ∙ ap (λ (j : ℕ). start_in (place_after S.instance Root (path_of hs j))) same
    ∙ ap start_in b.at) ms f.antichain.sound

-- the antichain from which the label went out that was cut
pub IsFront-cut : (S : Face) (hs : List Held) (x id : ℕ) (ms rest : List Member) → IsFront S hs x ms
    → Leaves (λ (m : Member). m.id ≡ id) (λ (m : Member). m.id ≢ id) ms rest → IsAntichainOf S (λ k. path_of hs k) rest
    → IsFront S (with_state hs id WasCut) x rest
IsFront-cut S hs x id ms rest f l a =
    let size : length (with_state hs id WasCut) ≡ length hs = length-with_state hs id WasCut in
    IsFront-less S hs (with_state hs id WasCut) [] (id ∷ []) (Turns-cut hs [] id) x ms f rest
    (λ k.
    let exact = kept-exact (λ j. j ≡ id) (λ j. j ≢ id) (λ j p q. q p) ms l.gone rest l.parted k in (
      λ h. let both = exact.0 h in (both.0, has-tail k id [] (λ e. both.1 (sym e))),
      λ both. exact.1 (both.0, λ e. true≢false (sym (has_head k []) ∙ ap (λ (j : ℕ). has k (j ∷ [])) e ∙ both.1)),
    ))
    (λ k past live. let there : k < length (with_state hs id WasCut) = live.there in absurd (omega arith)) a

-- a bucket of which a label was cut, with the antichain that this left
pub IsKeptBucket-cut : (old new : Bin) (id value p x : ℕ) (rows : List Row) (row : Row) → Cutting old new id value Done
    → last_of (path_of (held_in old) id) ≡ x → x ≡ p * BUCKETS + old.number → p < FRONTS → IsKeptBucket old rows
    → IsFront old.side (with_state (held_in old) id WasCut) x row.members → IsKeptBucket new (set rows p row)
IsKeptBucket-cut old new id value p x rows row t ends is small b f =
    let held : held_in new ≡ with_state (held_in old) id WasCut
    = held_in-grown old new t.steps t.grows ∙ ap (after_all (held_in old)) t.answer.steps_are in
    IsKeptBucket-grown old new t.steps (set rows p row) t.grows
    (subst (λ (gs : List Held). Antichain old.side gs) (sym held)
    (Antichain-leaves old.side (held_in old) (with_state (held_in old) id WasCut) [] [] (Leaves-cut old.side (held_in old) [] id) b.antichain))
    (subst (λ (gs : List Held). HasFronts old.side old.number gs (set rows p row)) (sym held)
    (HasFronts-set old.side old.number p x (held_in old) (with_state (held_in old) id WasCut) (path_of (held_in old) id) (id ∷ []) rows row
    (Turns-cut (held_in old) (path_of (held_in old) id) id) is small ends
    (λ k live named. elim (has_cons_cases k id [] named) [
      | inl same ↦ ap (λ (j : ℕ). last_of (path_of (held_in old) j)) same ∙ ends
      | inr none ↦ absurd (false≢true none)
    ]) b.fronts f))

-- ---- a bucket without labels

empty-at : (rows : List Row) (p : ℕ) → All (λ (row : Row). row.members ≡ []) rows → (get_or rows p no_row).members ≡ []
empty-at [] p empty = refl
empty-at (row ∷ rows) zero empty = All-head (λ (r : Row). r.members ≡ []) row rows empty
empty-at (row ∷ rows) (suc p) empty = empty-at rows p (All-tail (λ (r : Row). r.members ≡ []) row rows empty)

IsFront-nil : (S : Face) (x : ℕ) (ms : List Member) → ms ≡ [] → IsFront S [] x ms
IsFront-nil S x ms none = record {
  sound = λ k h. absurd (false≢true (ap (λ (ns : List Member). has k (ids_of ns)) (sym none) ∙ h));
  complete = λ k e. let there : k < 0 = e.live.there in absurd (omega arith);
  antichain = IsAntichainOf-none S (λ k. path_of [] k) ms none;
}

pub IsKeptBucket-none : (b : Bin) (rows : List Row) → b.history ≡ [] → length rows ≡ FRONTS → All (λ (row : Row). row.members ≡ []) rows
    → IsKeptBucket b rows
unfolding replay
IsKeptBucket-none b rows none size empty =
    let no_labels : held_in b ≡ [] = ap replay none in
    record {
      antichain = subst (λ (hs : List Held). Antichain b.side hs) (sym no_labels)
          (λ j k live_j live_k differ dominates. let there : j < 0 = live_j.there in omega arith);
      fronts = subst (λ (hs : List Held). HasFronts b.side b.number hs rows) (sym no_labels) (record {
        size = size;
        each = λ p small. IsFront-nil b.side (p * BUCKETS + b.number) (get_or rows p no_row).members (empty-at rows p empty);
      });
    }
