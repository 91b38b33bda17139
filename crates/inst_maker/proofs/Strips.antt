-- What every made strip keeps.
use Rattle.std.proofs.Common.{◌≡◌, ℕ, ◌/◌, ◌%◌, ◌<◌, ◌≤◌, true, false, nat_le, List, length, get_or, map, refl, sym, ◌∙◌, ap, subst, ⊎_elim, arith}
use Rattle.std.specs.Prelude.{All, if◌then◌else◌}
use Rattle.std.specs.Int.{div_ceil}
use Rattle.std.proofs.lemmas.Bool.{cases_lt}
use Rattle.std.proofs.lemmas.List.{length-map, get_or-map, get_or_past}
use Rattle.std.proofs.lemmas.Nat.{mod_below}
use Rattle.inst_maker.specs.Draws.{draw, give, in_order}
use Rattle.inst_maker.specs.Made.{a_request, a_window, a_back_window, closed, twin_of, a_placed_strip}
use Rattle.inst_maker.specs.Windows.{EndsEarly, HasEarlyEnds}
use Rattle.inst_maker.specs.declared.placed.Placed.{Placed}
use Rattle.inst_maker.specs.declared.limits.TheConstants.{MAX_SIZE}
use Rattle.inst_maker.proofs.InOrder.{length-in_order, each_in_order}
use Rattle.strip_model.specs.IsInstance.{IsWindow, HasWindows, IsWithinLimits}
use Rattle.strip_model.specs.Orbit.{no_strip}
use Rattle.strip_model.specs.declared.limits.TheConstants.{MAX_GAIN}
use Rattle.strip_model.specs.declared.request.Request.{Request}
use Rattle.strip_model.specs.declared.strip.Strip.{Strip}
use Rattle.strip_model.specs.declared.window.Window.{Window}

-- a number that was drawn below n is below n
pub draw-below : (n s : ℕ) → 0 < n → (draw n s).value < n
unfolding draw
draw-below n s h = mod_below _ n h

-- a made window keeps the limits
pub record IsMadeWindow (w : Window) : Type 0 where
  pub limits : IsWindow w
  pub early : EndsEarly w

a_window-made : (i s : ℕ) → i < MAX_SIZE → IsMadeWindow (a_window i s).value
unfolding a_window
a_window-made i s h =
    let wait = draw-below 40 s (omega arith) in
    let slack = draw-below 60 (draw 40 s).state (omega arith) in
    let longer = draw-below 20 (draw 60 (draw 40 s).state).state (omega arith) in
    record {
      limits = record { takes_time = omega arith; short = omega arith; over = omega arith };
      early = record { early = omega arith; late = omega arith };
    }

a_back_window-made : (i s : ℕ) → i < MAX_SIZE → IsMadeWindow (a_back_window i s).value
unfolding a_back_window
a_back_window-made i s h =
    elim (nat_le 2 (i % 4)) as (λ open_too. IsMadeWindow ((if open_too then a_window i else give closed) s).value) [
      | true ↦ a_window-made i s h
      | false ↦ record {
        limits = record { takes_time = omega arith; short = omega arith; over = omega arith };
        early = record { early = omega arith; late = omega arith };
      }
    ]

-- strip i of so many, as it is made
pub record IsMade (size i : ℕ) (s : Strip) : Type 0 where
  pub request : s.request ≡ i / 4
  pub twin : s.twin ≡ twin_of size i
  pub some_area : 1 ≤ s.area
  pub small : s.area ≤ 100
  pub windows : HasWindows s
  pub early : HasEarlyEnds s

-- with its offset
pub record IsMadePlaced (size i : ℕ) (p : Placed) : Type 0 where
  pub strip : IsMade size i p.strip
  pub near : p.offset ≤ 50

a_placed_strip-made : (size i s : ℕ) → i < size → size ≤ MAX_SIZE → IsMadePlaced size i (a_placed_strip size i s).value
unfolding a_placed_strip
a_placed_strip-made size i s h few =
    let area = draw-below 100 s (omega arith) in
    let after_area = (draw 100 s).state in
    let offset = draw-below 51 after_area (omega arith) in
    let after_offset = (draw 51 after_area).state in
    let forth = a_window-made i after_offset (omega arith) in
    let back = a_back_window-made i (a_window i after_offset).state (omega arith) in
    record {
      strip = record {
        request = refl;
        twin = refl;
        some_area = omega arith;
        small = omega arith;
        windows = record { forth = forth.limits; back = back.limits };
        early = record { forth = forth.early; back = back.early };
      };
      near = omega arith;
    }

-- the strips of an instance of so many, as they are made
pub record AreMade (size : ℕ) (placed : List Placed) : Type 0 where
  pub count : length placed ≡ size
  pub few : size ≤ MAX_SIZE
  pub each : (i : ℕ) (d : Placed) → i < size → IsMadePlaced size i (get_or placed i d)

pub AreMade-in_order : (size s : ℕ) (placed : List Placed) → size ≤ MAX_SIZE → placed ≡ (in_order (a_placed_strip size) size s).value → AreMade size placed
AreMade-in_order size s placed few e =
    subst (AreMade size) (sym e) (record {
      count = length-in_order (a_placed_strip size) size s;
      few = few;
      each = λ i d h. each_in_order (a_placed_strip size) (IsMadePlaced size) size (λ k t l. a_placed_strip-made size k t l few) s i d h;
    })

-- a strip by its number
pub strip_in-made : (size : ℕ) (placed : List Placed) (strips : List Strip) → AreMade size placed → strips ≡ map (λ p. p.strip) placed
    → (i : ℕ) (d : Strip) → i < size → IsMade size i (get_or strips i d)
strip_in-made size placed strips made e i d h =
    let none : Placed = record { strip = no_strip; offset = 0 } in
    let at : get_or strips i d ≡ (get_or placed i none).strip =
    ap (λ (strips : List Strip). get_or strips i d) e ∙ get_or-map (λ p. p.strip) placed i none d (omega (arith, made.count)) in
    subst (IsMade size i) (sym at) (made.each i none h).strip

pub length-strips : (size : ℕ) (placed : List Placed) (strips : List Strip) → AreMade size placed → strips ≡ map (λ p. p.strip) placed → length strips ≡ size
length-strips size placed strips made e = ap length e ∙ length-map placed (λ p. p.strip) ∙ made.count

-- no offset is past 50
pub offsets_near : (size : ℕ) (placed : List Placed) → AreMade size placed → (i : ℕ) → get_or (map (λ p. p.offset) placed) i 0 ≤ 50
offsets_near size placed made i =
    let none : Placed = record { strip = no_strip; offset = 0 } in
    ⊎_elim
    (λ within. omega (arith, get_or-map (λ p. p.offset) placed i none 0 within, (made.each i none (omega (arith, made.count))).near))
    (λ past. omega (arith, get_or_past (map (λ p. p.offset) placed) i 0 (omega (arith, length-map placed (λ p. p.offset)))))
    (cases_lt i (length placed))

pub all_early : (size : ℕ) (placed : List Placed) (strips : List Strip) → AreMade size placed → strips ≡ map (λ p. p.strip) placed → All HasEarlyEnds strips
all_early size placed strips made e i d h =
    (strip_in-made size placed strips made e i d (omega (arith, length-strips size placed strips made e))).early

-- the requests
pub requests-made : (n s : ℕ) (requests : List Request) → requests ≡ (in_order (λ _. a_request) n s).value
    → (length requests ≡ n) × All (λ r. r.gain ≤ MAX_GAIN) requests
unfolding a_request
requests-made n s requests e =
    let count : length requests ≡ n = ap length e ∙ length-in_order (λ _. a_request) n s in
    let small : (i : ℕ) (d : Request) → i < n → (get_or (in_order (λ _. a_request) n s).value i d).gain ≤ MAX_GAIN =
    λ i d h. each_in_order (λ _. a_request) (λ _ r. r.gain ≤ MAX_GAIN) n (λ k t l. omega (arith, draw-below 100 t (omega arith))) s i d h in
    (count, λ i d h. subst (λ (requests : List Request). (get_or requests i d).gain ≤ MAX_GAIN) (sym e) (small i d (omega (arith, count))))

-- requests and strips are within the limits of an instance
pub limits_kept : (size count s : ℕ) (requests : List Request) (placed : List Placed) (strips : List Strip)
    → count ≡ div_ceil size 4 → requests ≡ (in_order (λ _. a_request) count s).value → AreMade size placed → strips ≡ map (λ p. p.strip) placed
    → IsWithinLimits requests strips
limits_kept size count s requests placed strips counted requested made e =
    let asked = requests-made count s requests requested in
    let few = made.few in
    let as_many = length-strips size placed strips made e in
    record {
      few_requests = omega (arith, asked.0);
      gains = asked.1;
      few_strips = omega arith;
      each_strip = λ i d h.
          let strip = strip_in-made size placed strips made e i d (omega arith) in
          record {
            request = omega (arith, strip.request, asked.0);
            some_area = strip.some_area;
            small = omega (arith, strip.small);
            windows = strip.windows;
          };
    }
