-- A pass before and after a call.
use Rattle.std.proofs.Common.{◌≡◌, ◌+◌, ◌%◌, ◌^◌, ℕ, List, [], ◌∷◌, ◌++◌, length, drop, Option, Some, None, refl, ap, sym, ◌∙◌, subst}
use Rattle.std.specs.Prelude.{IsSomeAnd}
use Rattle.std.proofs.Math.Seq.{drop-append_seam}
use Rattle.std.proofs.lemmas.List.{map-append}
use mathlib.Core.List.{IsPrefix}
use Rattle.pass_weight.specs.declared.whole_weight.TheConstants.{WHOLE_WEIGHT}
use Rattle.atomic_table.specs.Seated.{TableId}
use mathlib.Core.Option.{some}
use lib.ListN.{get_elem?}
use Rattle.atomic_table.specs.Table.{Me, Step, Allows, Final, Seen, rest}
use Rattle.turn_lock.specs.declared.view.View.{View}
use Rattle.turn_lock.specs.declared.view.Stage.{Stage}
use Rattle.turn_lock.specs.declared.view.Stage.TheVariants.{Idle, Waiting, Holding}
use Rattle.turn_lock.specs.Pass.{Pass, parties}
use Rattle.turn_lock.specs.Interleaving.{IsInterleaving}
use Rattle.turn_lock.specs.Rule.{Keeps}
use Rattle.turn_lock.specs.Inside.{entries, found, IsStage, IsPass, pass_of}
use Rattle.turn_lock.specs.Views.{placed}
use Rattle.turn_lock.specs.Steps.{Serves, after_turn}
use Rattle.turn_lock.proofs.Places.{entries_placed}
use Rattle.turn_lock.proofs.Serving.{serves}
use Rattle.turn_lock.proofs.Ends.{closes}

module _ {T E : Type 0} where
  -- a pass that holds no turn is idle
  pub idle_stage : (stage : Stage E) (slots : List (ℕ × Option T)) (turn : Option (List E)) → IsStage stage slots → found stage ≡ turn → turn ≡ None
      → (stage ≡ Idle) × (slots ≡ [])
  idle_stage Idle slots turn is e none = (refl, is)
  idle_stage (Waiting k) slots turn is e none = absurd is
  idle_stage (Holding k history) slots turn is e none = absurd (cc)

  -- a pass that holds the turn, and what it found
  pub record HoldsTurn (P : List E → Type 0) (stage : Stage E) (slots : List (ℕ × Option T)) : Type 0 where
    pub ticket : ℕ
    pub history : List E
    pub stage_is : stage ≡ Holding ticket history
    pub slots_is : slots ≡ (0, None) ∷ []
    pub holds : P history

  pub held_stage : (P : List E → Type 0) (stage : Stage E) (slots : List (ℕ × Option T)) (turn : Option (List E)) → IsStage stage slots → found stage ≡ turn
      → IsSomeAnd turn P → HoldsTurn P stage slots
  held_stage P Idle slots None is e h = absurd h
  held_stage P Idle slots (Some x) is e h = absurd (cc)
  held_stage P (Waiting k) slots turn is e h = absurd is
  held_stage P (Holding k history) slots None is e h = absurd h
  held_stage P (Holding k history) slots (Some x) is e h =
      record { ticket = k; history = history; stage_is = refl; slots_is = is; holds = (let same : x ≡ history = cc in subst P same h) }

module _ {T E F : Type 0} (history : T → List E) (frame : T → F) where
  -- the pass after `leave`
  pub record HasLeft (table : TableId) (now : Pass E F) (held : T) (turns' weight' : ℕ) (after : Me (Option T) (View E F)) : Type 0 where
    pub inside : IsPass after.0 after.1 turns' weight'
    pub seen : after.0.seen ≡ history held
    pub own : (found added : List E) → now.turn ≡ Some found → history held ≡ found ++ added → entries after.0.own ≡ now.own ++ added
    pub others : pass_of table after.0 turns' ≡ record {
      lock = now.lock;
      seen = after.0.seen;
      own = entries after.0.own;
      joined = now.joined;
      turns = now.turns;
      weight = now.weight;
      turn = None;
      frame = now.frame;
    }

  module _ (table : TableId) (v : View E F) (slots : List (ℕ × Option T)) (turns weight : ℕ) (inv : IsPass v slots turns weight) (held : T) where
    left_own : (k : ℕ) (h : List E) → v.stage ≡ Holding k h → (found' added : List E) → found v.stage ≡ Some found' → history held ≡ found' ++ added
        → entries (v.own ++ placed (length h) (drop (length h) (history held))) ≡ entries v.own ++ added
    left_own k h holds found' added is grown =
        let shown : found v.stage ≡ Some h = ap found holds in
        let same : h ≡ found' = cc in
        let rest' : drop (length h) (history held) ≡ added = (λ i. drop (length (same i)) (grown i)) ∙ drop-append_seam found' added in
        map-append _ v.own _ ∙ ap (λ (l : List E). entries v.own ++ l) (entries_placed (length h) _ ∙ rest')

    left_at : (k : ℕ) (h : List E) → v.stage ≡ Holding k h → HasLeft table (pass_of table v turns) held turns weight (after_turn v h (history held), [])
    left_at k h holds = record {
      inside = record { stage = refl; told = inv.told; turns = inv.turns; weight = inv.weight; positive = inv.positive; bounded = inv.bounded };
      seen = refl;
      own = left_own k h holds;
      others = refl;
    }

    module _ (now : Pass E F) (value : T) (m : Me (Option T) (View E F)) (is : pass_of table v turns ≡ now)
        (grown : IsSomeAnd now.turn (λ found'. IsPrefix found' (history held))) (same : value ≡ held) (m_is : m ≡ (v, (0, Some value) ∷ rest slots)) where
      turn_held : HoldsTurn (λ found'. IsPrefix found' (history held)) v.stage slots
      turn_held = held_stage (λ found'. IsPrefix found' (history held)) v.stage slots now.turn inv.stage (ap (λ (p : Pass E F). p.turn) is) grown

      -- the seat has the value again
      put_back : m ≡ (v, (0, Some held) ∷ [])
      put_back = m_is ∙ (λ i. (v, (0, Some (same i)) ∷ rest (turn_held.slots_is i)))

      -- the step that serves the next ticket keeps the rule
      pub leaves : (f : F) (count id : ℕ) (st : Step (Option T)) → now.frame ≡ Some (frame held)
          → Allows (Keeps history frame f) count id m 1 (λ n. (n + 1) % 2 ^ 64) (Serves history frame st m)
      leaves f count id st framed =
          serves history frame f count id v m turn_held.ticket turn_held.history held st put_back turn_held.stage_is inv.positive turn_held.holds ((λ i. (is i).frame) ∙ framed)

      -- the pass after that step
      pub has_left : (after : Me (Option T) (View E F)) (st : Step (Option T)) (r : ℕ) → Serves history frame st m r after → HasLeft table now held turns weight after
      has_left after st r serves' =
          let h = turn_held in
          let after_is : after ≡ (after_turn v h.history (history held), []) =
          serves' h.ticket h.history held ((λ i. (put_back i).0.stage) ∙ h.stage_is) (λ i. (put_back i).1)
          ∙ (λ i. (after_turn (put_back i).0 h.history (history held), [])) in
          subst (λ (x : Me (Option T) (View E F)). HasLeft table now held turns weight x) (sym after_is)
          (subst (λ (p : Pass E F). HasLeft table p held turns weight (after_turn v h.history (history held), [])) is (left_at h.ticket h.history h.stage_is))

module _ {T E F : Type 0} (history : T → List E) (frame : T → F) (f : F) where
  -- what a pass with the whole weight knows of the value at the end
  pub record HasClosed (pass : Pass E F) (value : T) : Type 0 where
    pub framed : pass.frame ≡ Some (frame value)
    pub begins : IsPrefix pass.seen (history value)
    pub interleaved : IsInterleaving (history value) (parties pass)

  pub has_closed : (table : TableId) (id : ℕ) (v : View E F) (slots : List (ℕ × Option T)) (turns weight : ℕ) (pass : Pass E F) (words : List ℕ) (items : List (Option T)) (x : Option T)
      → IsPass v slots turns weight → pass_of table v turns ≡ pass → pass.turn ≡ None → pass.weight ≡ WHOLE_WEIGHT → Final (Seen (Keeps history frame f) id v) words items
      → get_elem? items 0 ≡ some x → (value : T) × (x ≡ Some value) × HasClosed pass value
  has_closed table id v slots turns weight pass words items x inv is idle whole final taken =
      let stage = idle_stage v.stage slots pass.turn inv.stage (λ i. (is i).turn) idle in
      let l = closes history frame f id v words items x stage.0 ((λ i. (is i).weight) ∙ whole) final taken in
      let at_view : HasClosed (pass_of table v turns) l.0 = record { framed = l.2.framed; begins = l.2.begins; interleaved = l.2.interleaved } in
      (l.0, l.1, subst (λ (p : Pass E F). HasClosed p l.0) is at_view)

  -- the same of the value that was unwrapped
  pub unwrapped : (pass : Pass E F) (x : Option T) (value : T) → (v : T) × (x ≡ Some v) × HasClosed pass v → x ≡ Some value → HasClosed pass value
  unwrapped pass x value h is = let same : h.0 ≡ value = (let e = h.1 in cc) in subst (HasClosed pass) same h.2
