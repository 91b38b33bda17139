-- What comes of an id that a queue gave, and of none.
use Rattle.std.proofs.Common.{◌≡◌, ◌⊎◌, ℕ, Bool, false, List, [], ◌∷◌, ◌++◌, Option, None, Some, refl, sym, ap, ◌∙◌, subst, inl, inr, append_assoc}
use Rattle.board.specs.Passes.{HalfPass, BoardName, BoardPass, half_of, lock_in, lock_at}
use Rattle.board.specs.Queues.{IsKnown, hand_of, IsNext}
use Rattle.board.specs.declared.reply.Reply.{Reply}
use Rattle.bucket.specs.Histories.{Step}
use Rattle.label_list.specs.Labels.{is_live}
use Rattle.bucket.specs.declared.id.Id.{Id}
use Rattle.crossbeam_queue.specs.Fifo.{Held}
use Rattle.pool.proofs.Acted.{works_trans, given_one, given_last}
use Rattle.pool.proofs.Handled.{ids_grow}
use Rattle.pool.proofs.SeenStill.{seen_still, path_seen_still, settled_before}
use Rattle.pool.specs.Acting.{Works, Acts}
use Rattle.pool.specs.Ends.{GivesNone, FindsNone}
use Rattle.pool.specs.Growth.{Grows}
use Rattle.pool.specs.Handling.{Handles, IsLastGiven}
use Rattle.pool.specs.Seen.{IsSeen, path_seen, state_seen, IsExtended, IsSettled, IsDone}
use Rattle.strip_model.specs.declared.end.End.{End}
use Rattle.strip_model.specs.declared.end.End.TheVariants.{Forward, Backward}
use Rattle.pass_weight.proofs.Totals.{all_map}
use Rattle.turn_lock.proofs.Prefixes.{prefix_self, prefix_trans}

-- ---- none

-- the halves are as they were
none_halves : (p q : BoardPass) (e : End) → IsNext e p q None → (f : End) → half_of q f ≡ half_of p f
none_halves p q Forward h Forward = h.change.0
none_halves p q Forward h Backward = ap (λ (x : BoardPass). x.backward) h.others
none_halves p q Backward h Forward = ap (λ (x : BoardPass). x.forward) h.others
none_halves p q Backward h Backward = h.change.0

pub none_given : (p q : BoardPass) (e : End) → IsNext e p q None → GivesNone e p q
none_given p q e h = record {
  asked = ap (λ (x : BoardPass). x.asked) h.others;
  halves = none_halves p q e h;
  held = subst (λ (g : HalfPass). Held 0 (IsKnown (hand_of g))) (sym h.change.0) h.change.1;
}

-- the two queues, one after the other
pub none_both : (p q r : BoardPass) → GivesNone Forward p q → GivesNone Backward q r → FindsNone p r
none_both p q r f b = record {
  round = (
    p.asked,
    prefix_self p.asked,
    b.asked ∙ ap (λ (l : List Reply). l ++ record { end = Backward; id = None } ∷ []) f.asked
        ∙ append_assoc p.asked (record { end = Forward; id = None } ∷ []) (record { end = Backward; id = None } ∷ []),
  );
  held = elim [
    | Forward ↦ subst (λ (g : HalfPass). Held 0 (IsKnown (hand_of g))) (sym (b.halves Forward)) f.held
    | Backward ↦ b.held
  ];
}

-- and before it other things were done
pub none_later : (p q r : BoardPass) → Grows p q → FindsNone q r → FindsNone p r
none_later p q r g h = record { round = (h.round.0, prefix_trans p.asked q.asked h.round.0 g.asked h.round.1, h.round.2); held = h.held }

-- ---- one

own_then : (p q : BoardPass) (e : End) (id : Id) → IsNext e p q (Some id) → (f : End) (k : ℕ) → (lock_at q f k).own ≡ (lock_at p f k).own
own_then p q Forward id h Forward k = ap (λ (x : HalfPass). (lock_in x k).own) h.change
own_then p q Forward id h Backward k = ap (λ (x : BoardPass). (lock_in x.backward k).own) h.others
own_then p q Backward id h Forward k = ap (λ (x : BoardPass). (lock_in x.forward k).own) h.others
own_then p q Backward id h Backward k = ap (λ (x : HalfPass). (lock_in x k).own) h.change

-- it was given, and then this was done
module _ (b : BoardName) (id : Id) (p q r : BoardPass) (e : End) (s t u : Bool) (same : t ≡ s)
    (h : IsNext e p q (Some id)) (a : Acts b (Some id) q t r u) where
  given : Works b (Some id) p s q t
  given = subst (λ (x : Bool). Works b (Some id) p s q x) (sym same) (given_one b p q e s id h)

  pub given_works : Works b (Some id) p s r u
  given_works = works_trans b (Some id) p q r s t u given a.works

  pub given_last_still : IsLastGiven p r (Some id)
  given_last_still =
      let last = given_last b p q e s id h in
      (last.0, last.1, last.2, last.3, a.asked ∙ last.4, last.5, last.6, last.7, a.ids last.0 ∙ last.8)

  pub given_settled : IsSettled q r id → Handles b None q r → Works b None p s r u
  given_settled settled handled = record {
    grows = given_works.grows;
    lawful = given_works.lawful;
    weight = given_works.weight;
    handles = record {
      given = λ f more is.
          all_map (λ i. (i ≡ id) ⊎ IsSettled p r i) (λ i. ⊥ ⊎ IsSettled p r i) more
          (λ i one. elim one [
            | inl same ↦ inr (subst (IsSettled p r) (sym same) (settled_before p q given.grows r id settled))
            | inr it ↦ inr it
          ]) (given_works.handles.given f more is);
      taken = λ f k more is. handled.taken f k more (is ∙ ap (λ (l : List Step). l ++ more) (sym (own_then p q e id h f k)));
    };
    pays = given_works.pays;
    earns = given_works.earns;
  }

-- ---- and before it other things were done

pub last_later : (p q r : BoardPass) → Grows p q → (last : Option Id) → IsLastGiven q r last → IsLastGiven p r last
last_later p q r g None h = tt
last_later p q r g (Some id) h = (
  h.0,
  h.1,
  h.2,
  prefix_trans p.asked q.asked h.1 g.asked h.3,
  h.4,
  h.5,
  h.6,
  prefix_trans (half_of p h.0).ids (half_of q h.0).ids h.6 (ids_grow p q g h.0) h.7,
  h.8,
)

-- ---- a label that was taken

-- it isn't live any more
pub done_dead : (b : BoardName) (p q : BoardPass) → Grows p q → (id : Id) → IsSeen p id → is_live (state_seen q id) ≡ false → IsDone b q id
done_dead b p q g id seen dead = record { seen = seen_still p q g id seen; done = inl dead }

-- all its extensions were seen
pub done_extended : (b : BoardName) (p q : BoardPass) → Grows p q → (id : Id) (e : End) (path : List ℕ) → IsSeen p id → e ≡ id.end → path_seen p id ≡ path
    → IsExtended b q e path → IsDone b q id
done_extended b p q g id e path seen same is extended = record {
  seen = seen_still p q g id seen;
  done = inr (subst (λ (f : End). IsExtended b q f (path_seen q id)) same
      (subst (λ (xs : List ℕ). IsExtended b q e xs) (sym (path_seen_still p q g id seen ∙ is)) extended));
}
