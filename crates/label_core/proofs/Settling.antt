-- What going over a bucket's entries makes of labels that are all there from the first.
use Rattle.std.proofs.Common.{◌≡◌, ℕ, zero, suc, ◌+◌, ◌<◌, ◌≤◌, Bool, true, false, cond, nat_le, List, [], ◌∷◌, ◌++◌, map, set, take, drop, length, get_or, length-append, length-set, Some, slice_get, refl, sym, ◌∙◌, ap, subst, arith}
use Rattle.std.proofs.Math.Seq.{map-set_same, drop-cons}
use Rattle.std.proofs.lemmas.List.{append_assoc, append-nil, map_push, set-append_left, get_or_append_left, length-map, take_all, drop_all, nil_from_length}
use Rattle.std.proofs.lemmas.List.Elements.{All-nil, All-push}
use Rattle.std.specs.List.{All}
use Rattle.bucket.specs.Buckets.{Bin, held_in, IsBucket}
use Rattle.bucket.specs.Histories.{Step, Inserts, Takes, Retires, Cuts, after, after_all, replay, IsLegal, AllLegal}
use Rattle.bucket.specs.Stores.{entry_of}
use Rattle.bucket.specs.Traces.{IsBucketAt, AreBucketsOf}
use Rattle.bucket.specs.declared.entry.Entry.{Entry}
use Rattle.bucket.specs.declared.entry.Entry.TheVariants.{Insert, Take, Retire, Cut as CutEntry}
use Rattle.bucket.specs.declared.limits.TheConstants.{BUCKETS}
use Rattle.label_core.proofs.KeptOf.{Begin, Begin-same, Begin-trans, Begin-after, Begin-after_all}
use Rattle.label_core.specs.CoreState.{Note, Cuts as CutsNote}
use Rattle.label_core.specs.Settling.{Settling, SettledSide, waiting, at_hand, marked, before, settle, settle_all, settle_bucket, settle_side, IsNamed, AreNamed}
use Rattle.label_core.specs.SideLists.{Sided, sided}
use Rattle.label_core.specs.Traces.{name_in}
use Rattle.label_list.specs.Labels.{Held, no_held, Listed, path_of, with_state, with_labels}
use Rattle.label_list.specs.declared.state.State.{State}
use Rattle.label_list.specs.declared.state.State.TheVariants.{Waiting, Taken, Retired, Cut}
use Rattle.strip_model.specs.Orbit.{Orbit}
use Rattle.strip_model.specs.Reach.{bound}
use Rattle.strip_model.specs.Side.{Face}
use Rattle.strip_model.specs.declared.end.End.{End}

-- the label that an entry is still to insert, and those of more entries
abbrev pub coming_of : Step → List Held
coming_of (Inserts k path) = record { path = path; state = Waiting } ∷ []
coming_of (Takes k) = []
coming_of (Retires k by) = []
coming_of (Cuts k) = []

abbrev pub coming : List Step → List Held
coming [] = []
coming (entry ∷ entries) = coming_of entry ++ coming entries

-- ---- all labels of a bucket, while they wait, are those that its entries insert

waiting-with_state : (hs : List Held) (k : ℕ) (state : State) → map waiting (with_state hs k state) ≡ map waiting hs ++ []
waiting-with_state hs k state =
    map-set_same waiting hs k (record { path = path_of hs k; state = state }) no_held refl ∙ sym (append-nil (map waiting hs))

waiting-after : (hs : List Held) (entry : Step) → map waiting (after hs entry) ≡ map waiting hs ++ coming_of entry
waiting-after hs (Inserts k path) = map_push waiting hs (record { path = path; state = Waiting })
waiting-after hs (Takes k) = waiting-with_state hs k Taken
waiting-after hs (Retires k by) = waiting-with_state hs k (Retired by)
waiting-after hs (Cuts k) = waiting-with_state hs k Cut

pub waiting-after_all : (hs : List Held) (entries : List Step) → map waiting (after_all hs entries) ≡ map waiting hs ++ coming entries
waiting-after_all hs [] = sym (append-nil (map waiting hs))
waiting-after_all hs (entry ∷ entries) =
    waiting-after_all (after hs entry) entries ∙ ap (λ (ls : List Held). ls ++ coming entries) (waiting-after hs entry)
    ∙ append_assoc (map waiting hs) (coming_of entry) (coming entries)

-- a label among the first in another state
pub with_held-append : (hs rest : List Held) (k : ℕ) (state : State) → k < length hs → with_state (hs ++ rest) k state ≡ with_state hs k state ++ rest
with_held-append hs rest k state below =
    ap (λ (h : Held). set (hs ++ rest) k (record { path = h.path; state = state })) (get_or_append_left hs rest no_held k below)
    ∙ set-append_left hs rest k (record { path = path_of hs k; state = state }) below

-- ---- the entries of a legal history name labels of the bucket

named-entry : (S : Face) (number : ℕ) (hs all : List Held) (entry : Step) → IsLegal S number hs entry → Begin hs all → IsNamed (length all) (entry_of entry)
named-entry S number hs all (Inserts k path) legal begin = tt
named-entry S number hs all (Takes k) legal begin = (begin k legal.there).0
named-entry S number hs all (Retires k by) legal begin = (begin k legal.live.there).0
named-entry S number hs all (Cuts k) legal begin = (begin k legal.there).0

pub named-at : (S : Face) (number : ℕ) (hs all : List Held) (entries : List Step) (k : ℕ) (d : Entry) → AllLegal S number hs entries
    → Begin (after_all hs entries) all → k < length (map entry_of entries) → IsNamed (length all) (get_or (map entry_of entries) k d)
named-at S number hs all [] k d legal begin below = absurd (omega (arith, below))
named-at S number hs all (entry ∷ entries) zero d legal begin below =
    named-entry S number hs all entry legal.0
    (Begin-trans hs (after_all hs (entry ∷ entries)) all (Begin-after_all hs (entry ∷ entries)) begin)
named-at S number hs all (entry ∷ entries) (suc k) d legal begin below =
    named-at S number (after hs entry) all entries k d legal.1 begin (omega (arith, below))

-- ---- all labels wait, one after another

-- the first labels wait, and the others are as they were
abbrev pub first_wait : List Held → ℕ → List Held
first_wait hs k = map waiting (take k hs) ++ drop k hs

wait_one : (hs : List Held) (k : ℕ) → k < length hs → with_state (first_wait hs k) k Waiting ≡ first_wait hs (suc k)
wait_one [] k below = absurd (omega (arith, below))
wait_one (h ∷ hs) zero below = refl
wait_one (h ∷ hs) (suc k) below = ap (λ (ls : List Held). waiting h ∷ ls) (wait_one hs k (omega (arith, below)))

length-first_wait : (hs : List Held) (k : ℕ) → length (first_wait hs k) ≡ length hs
length-first_wait [] zero = refl
length-first_wait [] (suc k) = refl
length-first_wait (h ∷ hs) zero = refl
length-first_wait (h ∷ hs) (suc k) = ap suc (length-first_wait hs k)

-- a list whose first labels wait, and the next one too
module _ (old list new : Listed) (k : ℕ) (below : k < length old.labels) (is : list ≡ with_labels old (first_wait old.labels k)) where
  pub wait_below : k < length list.labels
  wait_below = omega (arith, below, length-first_wait old.labels k, ap (λ (l : Listed). length l.labels) is)

  pub wait_next : new ≡ with_labels list (with_state list.labels k Waiting) → new ≡ with_labels old (first_wait old.labels (k + 1))
  wait_next step =
      let next : suc k ≡ k + 1 = omega arith in
      step ∙ ap (λ (l : Listed). with_labels l (with_state l.labels k Waiting)) is
      ∙ ap (λ (hs : List Held). with_labels old hs) (wait_one old.labels k below)
      ∙ ap (λ (j : ℕ). with_labels old (first_wait old.labels j)) next

pub wait_begins : (old : Listed) → old ≡ with_labels old (first_wait old.labels 0)
wait_begins old = refl

pub wait_ends : (old list : Listed) (k : ℕ) → length old.labels ≤ k → list ≡ with_labels old (first_wait old.labels k)
    → list ≡ with_labels old (map waiting old.labels)
wait_ends old list k past is =
    is ∙ ap (λ (hs : List Held). with_labels old (map waiting hs ++ drop k old.labels)) (take_all k old.labels past)
    ∙ ap (λ (hs : List Held). with_labels old (map waiting old.labels ++ hs)) (drop_all k old.labels past)
    ∙ ap (λ (hs : List Held). with_labels old hs) (append-nil (map waiting old.labels))

-- ---- entries, one after another

length-settle : (J : Orbit) (e : End) (number gain : ℕ) (p : Settling) (entry : Entry) → length (settle J e number gain p entry).labels ≡ length p.labels
length-settle J e number gain p (Insert k) = refl
length-settle J e number gain p (Take k) = length-set p.labels k (record { path = path_of p.labels k; state = Taken })
length-settle J e number gain p (Retire k by) = length-set p.labels k (record { path = path_of p.labels k; state = Retired by })
length-settle J e number gain p (CutEntry k) = by_case (nat_le (bound J (path_of p.labels k)) gain)
  where
    by_case : (borne : Bool) → length (cond borne (marked p k Cut (CutsNote (name_in e number k))) p).labels ≡ length p.labels
    by_case true = length-set p.labels k (record { path = path_of p.labels k; state = Cut })
    by_case false = refl

-- where going over entries stands: what is left of them leads from these labels and marks where all lead from the first ones
pub record IsSettling (e : End) (number gain : ℕ) (entries rest : List Entry) (old list : Listed) (notes_before notes : List Note) : Type 0 where
  pub face : list.face ≡ old.face
  pub size : length list.labels ≡ length old.labels
  pub leads : settle_all old.face.instance e number gain (at_hand list.labels notes) rest
      ≡ settle_all old.face.instance e number gain (at_hand old.labels notes_before) entries

module _ (e : End) (number gain : ℕ) (entries : List Entry) (old list new : Listed) (notes_before notes notes_after : List Note) (k : ℕ) (d : Entry)
    (below : k < length entries) (is : IsSettling e number gain entries (drop k entries) old list notes_before notes)
    (named : AreNamed (length old.labels) entries) where
  pub settling_named : IsNamed (length list.labels) (get_or entries k d)
  settling_named = subst (λ (n : ℕ). IsNamed n (get_or entries k d)) (sym is.size) (named k d below)

  pub settling_next : new ≡ with_labels list (settle list.face.instance e number gain (at_hand list.labels notes) (get_or entries k d)).labels
      → notes_after ≡ (settle list.face.instance e number gain (at_hand list.labels notes) (get_or entries k d)).notes
      → IsSettling e number gain entries (drop (k + 1) entries) old new notes_before notes_after
  settling_next labels marks =
      let next : suc k ≡ k + 1 = omega arith in
      let there : at_hand new.labels notes_after ≡ settle list.face.instance e number gain (at_hand list.labels notes) (get_or entries k d) =
      ap (λ (l : Listed). at_hand l.labels notes_after) labels
      ∙ ap (λ (ns : List Note). at_hand (settle list.face.instance e number gain (at_hand list.labels notes) (get_or entries k d)).labels ns) marks in
      let here : at_hand new.labels notes_after ≡ settle old.face.instance e number gain (at_hand list.labels notes) (get_or entries k d) =
      there ∙ ap (λ (S : Face). settle S.instance e number gain (at_hand list.labels notes) (get_or entries k d)) is.face in
      let rest : drop k entries ≡ get_or entries k d ∷ drop (k + 1) entries =
      drop-cons entries k d below ∙ ap (λ (j : ℕ). get_or entries k d ∷ drop j entries) next in
      record {
        face = ap (λ (l : Listed). l.face) labels ∙ is.face;
        size =
            ap (λ (l : Listed). length l.labels) labels
            ∙ length-settle list.face.instance e number gain (at_hand list.labels notes) (get_or entries k d) ∙ is.size;
        leads =
            ap (λ (p : Settling). settle_all old.face.instance e number gain p (drop (k + 1) entries)) here
            ∙ ap (λ (es : List Entry). settle_all old.face.instance e number gain (at_hand list.labels notes) es) (sym rest) ∙ is.leads;
      }

pub settling_begins : (e : End) (number gain : ℕ) (entries : List Entry) (old : Listed) (notes : List Note)
    → IsSettling e number gain entries (drop 0 entries) old old notes notes
settling_begins e number gain entries old notes = record { face = refl; size = refl; leads = refl }

-- at the end of the entries
pub settling_ends : (e : End) (number gain : ℕ) (entries : List Entry) (old list : Listed) (notes_before notes : List Note) (k : ℕ) → length entries ≤ k
    → IsSettling e number gain entries (drop k entries) old list notes_before notes
    → (list ≡ with_labels old (settle_all old.face.instance e number gain (at_hand old.labels notes_before) entries).labels)
    × (notes ≡ (settle_all old.face.instance e number gain (at_hand old.labels notes_before) entries).notes)
settling_ends e number gain entries old list notes_before notes k past is =
    let done : at_hand list.labels notes ≡ settle_all old.face.instance e number gain (at_hand old.labels notes_before) entries =
    ap (λ (es : List Entry). settle_all old.face.instance e number gain (at_hand list.labels notes) es) (sym (drop_all k entries past)) ∙ is.leads in (
      ap (λ (S : Face). with_face S list.labels) is.face ∙ ap (λ (p : Settling). with_labels old p.labels) done,
      ap (λ (p : Settling). p.notes) done,
    )
  where
    with_face : Face → List Held → Listed
    with_face S hs = record { face = S; labels = hs }

-- ---- a bucket that was taken apart

module _ (number : ℕ) (b : Bin) (number_is : b.number ≡ number) (sound : IsBucket b) (list waits : Listed) (entries : List Entry)
    (list_is : list ≡ record { face = b.side; labels = held_in b }) (waits_is : waits ≡ with_labels list (map waiting list.labels))
    (entries_are : entries ≡ map entry_of b.history) where
  waits_there : waits ≡ record { face = b.side; labels = map waiting (held_in b) }
  waits_there = waits_is ∙ ap (λ (l : Listed). with_labels l (map waiting l.labels)) list_is

  -- its entries name its labels
  pub bucket_named : AreNamed (length waits.labels) entries
  unfolding replay
  bucket_named k d below =
      let size : length (held_in b) ≡ length waits.labels =
      sym (length-map (held_in b) waiting) ∙ ap (λ (l : Listed). length l.labels) (sym waits_there) in
      let within : k < length (map entry_of b.history) = omega (arith, below, ap (λ (es : List Entry). length es) entries_are) in
      subst (λ (n : ℕ). IsNamed n (get_or entries k d)) size
      (subst (λ (es : List Entry). IsNamed (length (held_in b)) (get_or es k d)) (sym entries_are)
      (named-at b.side b.number [] (after_all [] b.history) b.history k d sound.history.legal (Begin-same (after_all [] b.history)) within))

  -- and lead where the bucket does
  bucket_settled : (e : End) (gain : ℕ) (notes : List Note)
      → settle_all waits.face.instance e number gain (at_hand waits.labels notes) entries ≡ settle_bucket b.side.instance e gain notes b
  unfolding settle_bucket
  bucket_settled e gain notes =
      ap (λ (l : Listed). settle_all l.face.instance e number gain (at_hand l.labels notes) entries) waits_there
      ∙ ap (λ (es : List Entry). settle_all b.side.instance e number gain (at_hand (map waiting (held_in b)) notes) es) entries_are
      ∙ ap (λ (n : ℕ). settle_all b.side.instance e n gain (at_hand (map waiting (held_in b)) notes) (map entry_of b.history)) (sym number_is)

  pub bucket_list : (e : End) (gain : ℕ) (notes : List Note) (new : Listed)
      → new ≡ with_labels waits (settle_all waits.face.instance e number gain (at_hand waits.labels notes) entries).labels
      → new ≡ record { face = b.side; labels = (settle_bucket b.side.instance e gain notes b).labels }
  bucket_list e gain notes new is =
      is ∙ ap (λ (p : Settling). with_labels waits p.labels) (bucket_settled e gain notes)
      ∙ ap (λ (l : Listed). with_labels l (settle_bucket b.side.instance e gain notes b).labels) waits_there

  pub bucket_notes : (e : End) (gain : ℕ) (notes then : List Note)
      → then ≡ (settle_all waits.face.instance e number gain (at_hand waits.labels notes) entries).notes
      → then ≡ (settle_bucket b.side.instance e gain notes b).notes
  bucket_notes e gain notes then is = is ∙ ap (λ (p : Settling). p.notes) (bucket_settled e gain notes)

-- ---- the buckets of a side, one after another

-- Where going over a side's buckets stands: so many are done, whose lists these are; what is left leads on from these marks
-- where all lead from the first ones.
pub record IsSettlingSide (S : Face) (e : End) (gain : ℕ) (bins rest : List Bin) (lists : List Listed) (notes_before notes : List Note) (n : ℕ) : Type 0 where
  pub faces : All (λ l. l.face ≡ S) lists
  pub done : length lists ≡ n
  pub left : length rest + n ≡ BUCKETS
  pub each : (k : ℕ) (b : Bin) → slice_get rest k ≡ Some b → IsBucketAt S (n + k) b
  pub buckets : map (λ (l : Listed). l.labels) lists ++ (settle_side S.instance e gain notes rest).buckets
      ≡ (settle_side S.instance e gain notes_before bins).buckets
  pub notes_are : (settle_side S.instance e gain notes rest).notes ≡ (settle_side S.instance e gain notes_before bins).notes

pub side_begins : (S : Face) (e : End) (gain : ℕ) (bins rest : List Bin) (lists : List Listed) (notes : List Note) → AreBucketsOf S bins → rest ≡ bins
    → lists ≡ [] → IsSettlingSide S e gain bins rest lists notes notes 0
side_begins S e gain bins rest lists notes are rest_is lists_is =
    subst (λ (bs : List Bin). IsSettlingSide S e gain bins bs lists notes notes 0) (sym rest_is)
    (subst (λ (ls : List Listed). IsSettlingSide S e gain bins bins ls notes notes 0) (sym lists_is)
    (record {
      faces = All-nil (λ (l : Listed). l.face ≡ S);
      done = refl;
      left = omega (arith, are.count);
      each = λ k b here. let on : k ≡ 0 + k = omega arith in subst (λ (n : ℕ). IsBucketAt S n b) on (are.each k b here);
      buckets = refl;
      notes_are = refl;
    }))

-- the next bucket
pub side_bucket : (S : Face) (e : End) (gain : ℕ) (bins rest later : List Bin) (lists : List Listed) (notes_before notes : List Note) (n : ℕ) (b : Bin)
    → IsSettlingSide S e gain bins rest lists notes_before notes n → rest ≡ b ∷ later → IsBucketAt S n b
side_bucket S e gain bins rest later lists notes_before notes n b is next =
    let at : n + 0 ≡ n = omega arith in
    subst (λ (k : ℕ). IsBucketAt S k b) at (is.each 0 b (ap (λ (bs : List Bin). slice_get bs 0) next))

module _ (S : Face) (e : End) (gain : ℕ) (bins rest later : List Bin) (lists more : List Listed) (notes_before notes then : List Note) (n : ℕ) (b : Bin)
    (list : Listed) (is : IsSettlingSide S e gain bins rest lists notes_before notes n) (next : rest ≡ b ∷ later) where
  pub side_next : list ≡ record { face = b.side; labels = (settle_bucket b.side.instance e gain notes b).labels }
      → then ≡ (settle_bucket b.side.instance e gain notes b).notes → more ≡ lists ++ list ∷ []
      → IsSettlingSide S e gain bins later more notes_before then (n + 1)
  side_next list_from then_from more_is =
      let side : b.side ≡ S = (side_bucket S e gain bins rest later lists notes_before notes n b is next).side in
      let list_is : list ≡ record { face = S; labels = (settle_bucket S.instance e gain notes b).labels } =
      list_from ∙ ap (λ (F : Face). listed_at F) side in
      let then_is : then ≡ (settle_bucket S.instance e gain notes b).notes =
      then_from ∙ ap (λ (F : Face). (settle_bucket F.instance e gain notes b).notes) side in
      let whole : settle_side S.instance e gain notes rest
      ≡ before (settle_bucket S.instance e gain notes b) (settle_side S.instance e gain (settle_bucket S.instance e gain notes b).notes later) =
      ap (λ (bs : List Bin). settle_side S.instance e gain notes bs) next in
      let on : settle_side S.instance e gain then later ≡ settle_side S.instance e gain (settle_bucket S.instance e gain notes b).notes later =
      ap (λ (ns : List Note). settle_side S.instance e gain ns later) then_is in
      let here : list.labels ∷ (settle_side S.instance e gain then later).buckets ≡ (settle_side S.instance e gain notes rest).buckets =
      ap (λ (l : Listed). l.labels ∷ (settle_side S.instance e gain then later).buckets) list_is
      ∙ ap (λ (q : SettledSide). (settle_bucket S.instance e gain notes b).labels ∷ q.buckets) on
      ∙ ap (λ (q : SettledSide). q.buckets) (sym whole) in
      record {
        faces =
            subst (λ (ls : List Listed). All (λ l. l.face ≡ S) ls) (sym more_is)
            (All-push (λ (l : Listed). l.face ≡ S) lists list is.faces (ap (λ (l : Listed). l.face) list_is));
        done = omega (arith, is.done, ap (λ (ls : List Listed). length ls) more_is, length-append lists (list ∷ []));
        left = omega (arith, is.left, ap (λ (bs : List Bin). length bs) next);
        each =
            λ k c there.
            let at : n + suc k ≡ n + 1 + k = omega arith in
            subst (λ (j : ℕ). IsBucketAt S j c) at (is.each (suc k) c (ap (λ (bs : List Bin). slice_get bs (suc k)) next ∙ there));
        buckets =
            ap (λ (ls : List Listed). map (λ (l : Listed). l.labels) ls ++ (settle_side S.instance e gain then later).buckets) more_is
            ∙ ap (λ (xs : List (List Held)). xs ++ (settle_side S.instance e gain then later).buckets) (map_push (λ (l : Listed). l.labels) lists list)
            ∙ append_assoc (map (λ (l : Listed). l.labels) lists) (list.labels ∷ []) (settle_side S.instance e gain then later).buckets
            ∙ ap (λ (xs : List (List Held)). map (λ (l : Listed). l.labels) lists ++ xs) here ∙ is.buckets;
        notes_are = ap (λ (q : SettledSide). q.notes) on ∙ ap (λ (q : SettledSide). q.notes) (sym whole) ∙ is.notes_are;
      }
    where
      listed_at : Face → Listed
      listed_at F = record { face = F; labels = (settle_bucket F.instance e gain notes b).labels }

-- at the end of its buckets
pub side_ends : (S : Face) (e : End) (gain : ℕ) (bins rest : List Bin) (lists : List Listed) (notes_before notes : List Note) (n : ℕ) → BUCKETS ≤ n
    → IsSettlingSide S e gain bins rest lists notes_before notes n
    → (sided S lists ≡ record { face = S; buckets = (settle_side S.instance e gain notes_before bins).buckets })
    × (notes ≡ (settle_side S.instance e gain notes_before bins).notes)
side_ends S e gain bins rest lists notes_before notes n past is =
    let none : rest ≡ [] = nil_from_length rest (omega (arith, is.left, past)) in (
      ap (λ (bs : List (List Held)). with_buckets bs)
          (sym (append-nil (map (λ (l : Listed). l.labels) lists))
          ∙ ap (λ (bs : List Bin). map (λ (l : Listed). l.labels) lists ++ (settle_side S.instance e gain notes bs).buckets) (sym none) ∙ is.buckets),
      ap (λ (bs : List Bin). (settle_side S.instance e gain notes bs).notes) (sym none) ∙ is.notes_are,
    )
  where
    with_buckets : List (List Held) → Sided
    with_buckets bs = record { face = S; buckets = bs }
