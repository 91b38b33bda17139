-- From the entries of labels to the labels.
use Rattle.std.proofs.Common.{◌≡◌, ℕ, ◌<◌, ◌≤◌, List, All, Option, None, Some, length, get_or, refl, sym, ◌∙◌, ap, subst, le_trans, arith}
use Rattle.std.proofs.lemmas.Option.{slice_get-get_or}
use Rattle.joiner.proofs.Halving.{join_gain-forward}
use Rattle.joiner.proofs.Tipping.{Meets-joins, Joins-meets, meet_gain-joins}
use Rattle.joiner.specs.Entries.{IsSound, IsAmong, Covered, IsPairOf}
use Rattle.joiner.specs.Offers.{Covers, IsAbove}
use Rattle.joiner.specs.Pairs.{place_of, path_at, IsPair, HasNoneOver, IsBest, HasOver}
use Rattle.joiner.specs.Represented.{IsEntryAt, Represents, IsRanking}
use Rattle.joiner.specs.Tips.{IsTipAt, meet_gain}
use Rattle.joiner.specs.Walks.{IsBounding, IsFoundIn, MeetsOver, MeetsNoneOver}
use Rattle.joiner.specs.declared.entry.Entry.{Entry}
use Rattle.joiner.specs.declared.group.Group.{Group}
use Rattle.joiner.specs.declared.pair.Pair.{Pair}
use Rattle.joiner.specs.declared.ranked.Ranked.{Ranked}
use Rattle.label.specs.declared.label.Label.{Label}
use Rattle.strip_model.specs.IsInstance.{IsInstance}
use Rattle.strip_model.specs.Join.{Joins, join_gain}
use Rattle.strip_model.specs.Orbit.{Orbit}
use Rattle.strip_model.specs.Reach.{bound}
use Rattle.strip_model.specs.declared.end.End.TheVariants.{Forward, Backward}

module _ (J : Orbit) (inst : IsInstance J) (fs bs : List Label) where
  -- what entries cover, their labels cover
  pub covers_at : (floor i j : ℕ) (best : Option Pair) (f w : Entry) → IsEntryAt J Forward fs i f → IsEntryAt J Backward bs j w → Covered J floor best f w
      → Joins J (path_at fs i) (path_at bs j) → Covers floor best (join_gain J (path_at fs i) (path_at bs j)) i j
  covers_at floor i j best f w hf hw covered joins =
      let g = meet_gain J f.tip w.tip in
      let meets = Meets-joins J inst (path_at fs i) (path_at bs j) f.tip w.tip hf.tip hw.tip joins in
      let gains = meet_gain-joins J (path_at fs i) (path_at bs j) f.tip w.tip hf.tip hw.tip joins in
      subst (λ (n : ℕ). Covers floor best n i j) gains
      (subst (λ (n : ℕ). Covers floor best g n j) hf.place
      (subst (λ (n : ℕ). Covers floor best g (place_of f.place) n) hw.place (covered meets)))

  -- the pair of two entries is one of their labels
  pub IsPair-entries : (i j : ℕ) (f w : Entry) (p : Pair) → IsEntryAt J Forward fs i f → IsEntryAt J Backward bs j w → IsPairOf J f w p → IsPair J fs bs p
  IsPair-entries i j f w p hf hw h =
      let at_f : place_of p.forward ≡ i = ap (λ (q : Pair). place_of q.forward) h.is ∙ hf.place in
      let at_w : place_of p.backward ≡ j = ap (λ (q : Pair). place_of q.backward) h.is ∙ hw.place in
      let joins = Joins-meets J inst (path_at fs i) (path_at bs j) f.tip w.tip hf.tip hw.tip h.meets in
      let gains = ap (λ (q : Pair). q.gain) h.is ∙ meet_gain-joins J (path_at fs i) (path_at bs j) f.tip w.tip hf.tip hw.tip joins in
      moved p i j (place_of p.forward) (place_of p.backward) at_f at_w refl refl hf.there hw.there joins gains
    where
      moved : (p : Pair) (i j m n : ℕ) → m ≡ i → n ≡ j → place_of p.forward ≡ m → place_of p.backward ≡ n → i ≤ length fs → j ≤ length bs
          → Joins J (path_at fs i) (path_at bs j) → p.gain ≡ join_gain J (path_at fs i) (path_at bs j) → IsPair J fs bs p
      moved p i j m n e g f h lf lb joins gains =
          let at_f : i ≡ place_of p.forward = sym (f ∙ e) in
          let at_b : j ≡ place_of p.backward = sym (h ∙ g) in
          record {
            forward_there = subst (λ (k : ℕ). k ≤ length fs) at_f lf;
            backward_there = subst (λ (k : ℕ). k ≤ length bs) at_b lb;
            joins = subst (λ (k : ℕ). Joins J (path_at fs k) (path_at bs (place_of p.backward))) at_f
                (subst (λ (k : ℕ). Joins J (path_at fs i) (path_at bs k)) at_b joins);
            gains = subst (λ (k : ℕ). p.gain ≡ join_gain J (path_at fs k) (path_at bs (place_of p.backward))) at_f
                (subst (λ (k : ℕ). p.gain ≡ join_gain J (path_at fs i) (path_at bs k)) at_b gains);
          }

  -- what a walk over the entries found is the answer for the labels
  pub IsBest-walked : (floor : ℕ) (first second : Entry → Type 0) (best : Option Pair) → Represents J Forward fs first → Represents J Backward bs second
      → IsAbove floor best → ((f w : Entry) → first f → second w → Covered J floor best f w) → IsFoundIn J first second best → IsBest J fs bs floor best
  IsBest-walked floor first second None hf hb above covered found =
      λ i li j lj joins.
      let f = hf.all i li in
      let w = hb.all j lj in
      covers_at floor i j None f.0 w.0 f.2 w.2 (covered f.0 w.0 f.1 w.1) joins
  IsBest-walked floor first second (Some p) hf hb above covered found =
      let f = hf.each found.0 found.2 in
      let w = hb.each found.1 found.3 in
      record {
        pair = IsPair-entries f.0 w.0 found.0 found.1 p f.1 w.1 found.4;
        above = above;
        greatest = λ i j li lj joins.
            let f = hf.all i li in
            let w = hb.all j lj in
            covers_at floor i j (Some p) f.0 w.0 f.2 w.2 (covered f.0 w.0 f.1 w.1) joins;
      }

  -- no pair with a label gains more than the label's bound
  pub IsBounding-ranked : (groups : List Group) (r : Ranked) (i : ℕ) → Represents J Backward bs (IsAmong groups) → IsEntryAt J Forward fs i r.entry
      → r.bound ≡ bound J (path_at fs i) → IsBounding J groups r
  IsBounding-ranked groups r i hb hf is w among meets =
      let at = hb.each w among in
      let joins = Joins-meets J inst (path_at fs i) (path_at bs at.0) r.entry.tip w.tip hf.tip at.1.tip meets in
      below (meet_gain J r.entry.tip w.tip) (join_gain J (path_at fs i) (path_at bs at.0)) (bound J (path_at fs i)) r.bound
      (meet_gain-joins J (path_at fs i) (path_at bs at.0) r.entry.tip w.tip hf.tip at.1.tip joins)
      (join_gain-forward J inst (path_at fs i) (path_at bs at.0) joins) is
    where
      below : (g h b r : ℕ) → g ≡ h → h ≤ b → r ≡ b → g ≤ r
      below g h b r e l f = omega arith

  -- ---- over a floor

  -- an entry that meets one for more than the floor is that of a path that joins with one
  pub HasOver-entry : (groups : List Group) (floor : ℕ) (path : List ℕ) (f : Entry) → Represents J Backward bs (IsAmong groups) → IsTipAt J Forward path f.tip
      → MeetsOver J groups floor f → HasOver J path bs floor
  HasOver-entry groups floor path f hb tip h =
      let at = hb.each h.with h.among in
      let other = path_at bs at.0 in
      let joins = Joins-meets J inst path other f.tip (h.with).tip tip at.1.tip h.meets in
      let P : ℕ → Type 0 = λ n. floor < n in
      record {
        with = at.0;
        there = at.1.there;
        joins = joins;
        over = subst P (meet_gain-joins J path other f.tip (h.with).tip tip at.1.tip joins) h.over;
      }

  pub HasNoneOver-entry : (groups : List Group) (floor : ℕ) (path : List ℕ) (f : Entry) → Represents J Backward bs (IsAmong groups) → IsTipAt J Forward path f.tip
      → MeetsNoneOver J groups floor f → HasNoneOver J path bs floor
  HasNoneOver-entry groups floor path f hb tip h j l joins =
      let w = hb.all j l in
      let other = path_at bs j in
      let meets = Meets-joins J inst path other f.tip (w.0).tip tip w.2.tip joins in
      let P : ℕ → Type 0 = λ n. n ≤ floor in
      subst P (meet_gain-joins J path other f.tip (w.0).tip tip w.2.tip joins) (h w.0 w.1 meets)

  -- a path whose bound is at most the floor joins with none over it
  pub HasNoneOver-bound : (floor : ℕ) (path : List ℕ) → bound J path ≤ floor → HasNoneOver J path bs floor
  HasNoneOver-bound floor path within j l joins = le_trans (join_gain-forward J inst path (path_at bs j) joins) within

  -- ---- the ranking

  -- the entries of a ranking are sound
  pub IsSound-ranked : (order : List Ranked) → IsRanking J fs order → All (λ r. IsSound J r.entry) order
  IsSound-ranked order h k d l = (h.bounds k (get_or order k d) (slice_get-get_or order k d l)).1.sound

  -- the bounds of a ranking hold
  pub IsBounding-ranking : (groups : List Group) (order : List Ranked) → Represents J Backward bs (IsAmong groups) → IsRanking J fs order → All (IsBounding J groups) order
  IsBounding-ranking groups order hb h k d l =
      let r = get_or order k d in
      let at = h.bounds k r (slice_get-get_or order k d l) in
      IsBounding-ranked groups r at.0 hb at.1 at.2
