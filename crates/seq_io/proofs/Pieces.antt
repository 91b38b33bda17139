-- Pieces that are taken or appended one after the other.
use Rattle.std.proofs.Common.{◌≡◌, ℕ, List, ◌++◌, take, drop, Option, None, Some, ap, sym, ◌∙◌, append_assoc, take-append-drop}
use Rattle.seq_io.specs.Source.{Consumes}
use Rattle.seq_io.specs.Sink.{Appends}

-- two takings in a row are one
pub Consumes-append : (before between after : Option (List ℕ)) (xs ys : List ℕ) → Consumes before between xs → Consumes between after ys → Consumes before after (xs ++ ys)
Consumes-append None between after xs ys first second = rw first at second
Consumes-append (Some left) between after xs ys first second =
    let next = rw first.2 at second in
    (next.0, first.1 ∙ ap (λ rest. xs ++ rest) next.1 ∙ sym (append_assoc xs ys next.0), next.2)

-- two appendings in a row are one
pub Appends-append : (before between after : Option (List ℕ)) (xs ys : List ℕ) → Appends before between xs → Appends between after ys → Appends before after (xs ++ ys)
Appends-append None between after xs ys first second = rw first at second
Appends-append (Some written) between after xs ys first second =
    let next = rw first at second in next ∙ ap Some (append_assoc written xs ys)

-- the first n bytes of the rest were appended too
pub grows : (before between after : Option (List ℕ)) (bytes rest left : List ℕ) (n : ℕ) → (front : List ℕ) × Appends before between front × (bytes ≡ front ++ rest) → Appends between after (take n rest) → left ≡ drop n rest → (front : List ℕ) × Appends before after front × (bytes ≡ front ++ left)
grows before between after bytes rest left n done more e =
    let front = done.0 in
    let piece = take n rest in
    let split : front ++ rest ≡ (front ++ piece) ++ drop n rest = ap (λ xs. front ++ xs) (sym (take-append-drop n rest)) ∙ sym (append_assoc front piece (drop n rest)) in
    (front ++ piece, Appends-append before between after front piece done.1 more, done.2 ∙ split ∙ ap (λ xs. (front ++ piece) ++ xs) (sym e))
