use Rattle.std.proofs.Common.{◌≡◌, ◌+◌, ◌∷◌, ℕ, false, drop, ap, sym, subst, ◌∙◌, arith}
use Rattle.std.proofs.lemmas.List.{take_rest, drop_more}
use Rattle.seq_io.specs.Line.{BLANK}
use Rattle.seq_io.proofs.FrontTokens.{begins_blank, FollowsBlank, FollowsNone, blank_follows, none_follows, no_blank_at}
use Rattle.seq_io.proofs.front.behind_token.Goals as goal
use Rattle.seq_io.proofs.front.behind_token.Goals.{else-end-bytes-via-then-end-bytes+else-bytes-end-eq32, else-end-bytes-via-else-end-bytes}

-- behind a blank
blank : (c : goal.After-result-1) → FollowsBlank c.args.bytes.now (drop (c.args.end + 1) c.args.bytes.now)
blank c =
    let bytes = c.args.bytes.now in
    let rest = drop (c.args.end + 1) bytes in
    let at : drop c.args.end bytes ≡ BLANK ∷ rest =
    drop_more bytes c.args.end 0 c.if-end-bytes.true ∙ ap (λ b. b ∷ rest) c.if-bytes-end-eq32.true in
    blank_follows bytes rest (ap (λ n. drop n bytes) (sym c.requires) ∙ at)

-- at LF, or at the end
none : (c : goal.After-result-else-end-bytes-1) → FollowsNone c.args.bytes.now (drop c.args.end c.args.bytes.now)
none c =
    let bytes = c.args.bytes.now in
    let other : begins_blank (drop c.args.end bytes) ≡ false = no_blank_at bytes c.args.end (λ inside is.
    elim c.else-end-bytes.branch [
      | else-end-bytes-via-then-end-bytes+else-bytes-end-eq32 w ↦ w.if-bytes-end-eq32.false is
      | else-end-bytes-via-else-end-bytes w ↦ absurd (omega arith)
    ]) in
    let P : ℕ → Type 0 = λ n. begins_blank (drop n bytes) ≡ false in
    let Q : ℕ → Type 0 = λ n. FollowsNone bytes (drop n bytes) in
    subst Q (sym c.requires) (none_follows bytes (subst P c.requires other))

pub returns-then-bytes-end-eq32-clause-tokens : goal.returns-then-bytes-end-eq32-clause-tokens
returns-then-bytes-end-eq32-clause-tokens c = rw (take_rest c.args.bytes.now (c.args.end + 1)) (blank c).parts_are

pub returns-then-bytes-end-eq32-clause-after : goal.returns-then-bytes-end-eq32-clause-after
returns-then-bytes-end-eq32-clause-after c = rw (take_rest c.args.bytes.now (c.args.end + 1)) (blank c).behind

pub returns-else-end-bytes-clause-tokens : goal.returns-else-end-bytes-clause-tokens
returns-else-end-bytes-clause-tokens c = (none c).parts_are

pub returns-else-end-bytes-clause-after : goal.returns-else-end-bytes-clause-after
returns-else-end-bytes-clause-after c = rw (take_rest c.args.bytes.now c.args.end) (none c).behind

pub returns-else-end-bytes-clause-none : goal.returns-else-end-bytes-clause-none
returns-else-end-bytes-clause-none c = rw (take_rest c.args.bytes.now c.args.end) (none c).none
