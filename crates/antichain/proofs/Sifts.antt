-- A pass along members that takes some out.
use Rattle.std.proofs.Common.{◌≡◌, ℕ, ◌+◌, ◌<◌, ◌≤◌, List, [], ◌∷◌, ◌++◌, length, take, drop, set, get_or, length-set, refl, sym, ◌∙◌, ap, subst, arith}
use Rattle.std.proofs.lemmas.List.{length-map, length-append, length-take-le, get_or-take, append-nil, append_assoc, take_all, take_more, take_more_set, drop_more, drop-set-lt, map_push, get_or_default}
use Rattle.std.specs.List.{All}
use Rattle.antichain.proofs.Parts.{Parted-append, Parted-all, length-parted}
use Rattle.antichain.specs.Antichains.{ids_of, Parted, nil, gone, kept, TakesOut}
use Rattle.antichain.specs.declared.member.Member.{Member}

-- The first k of the members xs are parted: those that stay stand in the first `place` of ys, and the ids of the others were
-- added to `ids`. The members from k on are still where they were.
pub record Sifting (P Q : Member → Type 0) (xs ys : List Member) (ids more : List ℕ) (k place : ℕ) : Type 0 where
  pub out : List Member
  pub left : List Member
  pub parted : Parted P Q (take k xs) out left
  pub front : take place ys ≡ left
  pub back : drop k ys ≡ drop k xs
  pub added : more ≡ ids ++ ids_of out
  pub sooner : place ≤ k
  pub inside : k ≤ length xs
  pub size : length ys ≡ length xs

module _ (P Q : Member → Type 0) where
  -- the members before `from` all stay
  pub Sifting-start : (xs : List Member) (ids : List ℕ) (from : ℕ) → from ≤ length xs → All Q (take from xs) → Sifting P Q xs xs ids ids from from
  Sifting-start xs ids from inside all = record {
    out = [];
    left = take from xs;
    parted = Parted-all P Q (take from xs) all;
    front = refl;
    back = refl;
    added = sym (append-nil ids);
    sooner = omega arith;
    inside = inside;
    size = refl;
  }

  -- and that is known of each
  pub Sifting-begin : (xs : List Member) (ids : List ℕ) (from : ℕ) → from ≤ length xs → ((k : ℕ) (d : Member) → k < from → Q (get_or xs k d))
      → Sifting P Q xs xs ids ids from from
  unfolding Sifting-start
  Sifting-begin xs ids from inside front =
      let short : length (take from xs) ≡ from = length-take-le from xs inside in
      Sifting-start xs ids from inside
      (λ k d l. let first : k < from = omega arith in subst Q (sym (get_or-take from xs k d first)) (front k d first))

  module _ (xs ys : List Member) (ids more : List ℕ) (k place : ℕ) (s : Sifting P Q xs ys ids more k place) (there : k < length xs) where
    -- the next member is still where it was
    pub Sifting-next : (d : Member) → get_or ys k d ≡ get_or xs k d
    Sifting-next d =
        let size = s.size in
        let heads : (get_or ys k d ∷ drop (k + 1) ys) ≡ (get_or xs k d ∷ drop (k + 1) xs) =
        sym (drop_more ys k d (omega arith)) ∙ s.back ∙ drop_more xs k d there in cc

    rest : (d : Member) → drop (k + 1) ys ≡ drop (k + 1) xs
    rest d =
        let size = s.size in
        let heads : (get_or ys k d ∷ drop (k + 1) ys) ≡ (get_or xs k d ∷ drop (k + 1) xs) =
        sym (drop_more ys k d (omega arith)) ∙ s.back ∙ drop_more xs k d there in cc

    -- there are no more ids than members so far
    pub Sifting-few : length more ≤ length ids + k
    Sifting-few =
        let both : length s.out + length s.left ≡ length (take k xs) = length-parted P Q s.parted in
        let count : length (take k xs) ≡ k = length-take-le k xs s.inside in
        let ids_count : length (ids_of s.out) ≡ length s.out = length-map s.out (λ (m : Member). m.id) in
        let all : length more ≡ length ids + length (ids_of s.out) = ap (λ (is : List ℕ). length is) s.added ∙ length-append ids (ids_of s.out) in
        omega arith

    one_more : (m : Member) → m ≡ get_or ys k m → take (k + 1) xs ≡ take k xs ++ m ∷ []
    one_more m is = take_more xs k m there ∙ ap (λ (n : Member). take k xs ++ n ∷ []) (sym (is ∙ Sifting-next m))

    goes : (m : Member) (ids_next : List ℕ) → m ≡ get_or ys k m → P m → ids_next ≡ more ++ m.id ∷ []
        → Sifting P Q xs ys ids ids_next (k + 1) place
    goes m ids_next is p adds = record {
      out = s.out ++ m ∷ [];
      left = s.left;
      parted =
          subst (λ (ms : List Member). Parted P Q ms (s.out ++ m ∷ []) s.left) (sym (one_more m is))
          (subst (λ (ks : List Member). Parted P Q (take k xs ++ m ∷ []) (s.out ++ m ∷ []) ks) (append-nil s.left)
          (Parted-append P Q s.parted (gone p nil)));
      front = s.front;
      back = rest m;
      added =
          adds ∙ ap (λ (is : List ℕ). is ++ m.id ∷ []) s.added ∙ append_assoc ids (ids_of s.out) (m.id ∷ [])
          ∙ ap (λ (is : List ℕ). ids ++ is) (sym (map_push (λ (n : Member). n.id) s.out m));
      sooner = let sooner = s.sooner in omega arith;
      inside = omega arith;
      size = s.size;
    }

    -- it goes; n is what was read of it for its id
    pub Sifting-gone : (m n : Member) (ids_next : List ℕ) → m ≡ get_or ys k m → n ≡ get_or ys k n → P m → ids_next ≡ more ++ n.id ∷ []
        → Sifting P Q xs ys ids ids_next (k + 1) place
    Sifting-gone m n ids_next is also p adds =
        let size = s.size in
        let same : n ≡ m = also ∙ get_or_default ys k n m (omega arith) ∙ sym is in
        goes m ids_next is p (adds ∙ ap (λ (o : Member). more ++ o.id ∷ []) same)

    -- it stays
    pub Sifting-kept : (m : Member) (zs : List Member) → m ≡ get_or ys k m → Q m → zs ≡ set ys place m
        → Sifting P Q xs zs ids more (k + 1) (place + 1)
    Sifting-kept m zs is q sets =
        let size = s.size in
        let sooner = s.sooner in
        record {
          out = s.out;
          left = s.left ++ m ∷ [];
          parted =
              subst (λ (ms : List Member). Parted P Q ms s.out (s.left ++ m ∷ [])) (sym (one_more m is))
              (subst (λ (gs : List Member). Parted P Q (take k xs ++ m ∷ []) gs (s.left ++ m ∷ [])) (append-nil s.out)
              (Parted-append P Q s.parted (kept q nil)));
          front =
              ap (λ (ms : List Member). take (place + 1) ms) sets ∙ take_more_set ys place m (omega arith)
              ∙ ap (λ (ms : List Member). ms ++ m ∷ []) s.front;
          back = ap (λ (ms : List Member). drop (k + 1) ms) sets ∙ drop-set-lt (k + 1) ys place m (omega arith) ∙ rest m;
          added = s.added;
          sooner = omega arith;
          inside = omega arith;
          size = ap (λ (ms : List Member). length ms) sets ∙ length-set ys place m ∙ s.size;
        }

  -- all is done
  pub Sifting-end : (xs ys zs : List Member) (ids more : List ℕ) (k place : ℕ) → Sifting P Q xs ys ids more k place → length xs ≤ k
      → zs ≡ take place ys → TakesOut P Q xs zs ids more
  Sifting-end xs ys zs ids more k place s all cut = record {
    gone = s.out;
    parted = subst (λ (ms : List Member). Parted P Q ms s.out zs) (take_all k xs all) (subst (λ (ks : List Member). Parted P Q (take k xs) s.out ks) (sym (cut ∙ s.front)) s.parted);
    added = s.added;
  }
