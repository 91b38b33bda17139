use Rattle.std.proofs.Common.{◌≡◌, ℕ, List, sym, ◌∙◌, ap, subst, arith, Some}
use Rattle.plan_check.proofs.ReadLines.{begun-from, unread-from}
use Rattle.proof_log.proofs.LineNumbers.{fault_in_text}
use Rattle.proof_log.proofs.OneLog.{one_log}
use Rattle.proof_log.proofs.Parts.{rest_fault-at_line}
use Rattle.proof_log.proofs.Standing.{no_text_fault}
use Rattle.proof_log.specs.AnswerReading.{rest_fault, IsRead, IsUnread}
use Rattle.proof_log.specs.AnswerRefusal.{AtStatus, text_fault, cause_of}
use Rattle.proof_log.specs.AnswerText.{IsLogText}
use Rattle.proof_log.specs.declared.log.Log.{Log}
use Rattle.proof_log.specs.declared.refusal.LogCause.{LogCause}
use Rattle.proof_log.specs.declared.unread.Unread.{Unread}
use Rattle.seq_io.specs.StrictText.{Rest, at_line}
use Rattle.proof_log.proofs.reading.read.Goals as goal

-- what is left at the beginning is the whole text
whole_fault : (bytes : List ℕ) (old : Rest) → old ≡ at_line 1 bytes → rest_fault AtStatus old ≡ text_fault bytes
whole_fault bytes old start = ap (λ (rest : Rest). rest_fault AtStatus rest) start ∙ rest_fault-at_line AtStatus 1 bytes

whole_text : (bytes : List ℕ) (old : Rest) (log : Log) → old ≡ at_line 1 bytes → IsRead old log → IsLogText bytes log
whole_text bytes old log start read = record { in_range = read.in_range; spelling = sym (unread-from 1 bytes old start) ∙ read.spelling }

-- a text with a line that can't stand is that of no log
no_log : (bytes : List ℕ) (line : ℕ) (cause : LogCause) (log : Log) → text_fault bytes ≡ Some (line, cause) → IsLogText bytes log → ⊥
no_log bytes line cause log faulty text = let none = no_text_fault bytes log text in cc

pub read_log-requires : goal.read_log-requires
read_log-requires c = begun-from 1 c.args.bytes.now c.new-reader.result c.new-reader.ensures

pub overflow_cast-result : goal.overflow_cast-result
overflow_cast-result c =
    let bytes = c.args.bytes.now in
    let U : Unread → Type 0 = λ unread. IsUnread AtStatus c.new-reader.result c.read_log.new.reader unread in
    let faulty = sym (whole_fault bytes c.new-reader.result c.new-reader.ensures) ∙ subst U c.in-Err-Fault.field-0-is c.in-Err-Fault.ensures.unread in
    omega (arith, c.requires, c.line.ensures, fault_in_text AtStatus 1 bytes c.read_log.new.reader.line (cause_of c.in-Err-Fault.fault) faulty)

pub returns-in-Ok-clause-text : goal.returns-in-Ok-clause-text
returns-in-Ok-clause-text c = whole_text c.args.bytes.now c.new-reader.result c.in-Ok.log c.new-reader.ensures c.in-Ok.ensures.read

pub returns-in-Ok-clause-every_text : goal.returns-in-Ok-clause-every_text
returns-in-Ok-clause-every_text c =
    λ log text. one_log c.args.bytes.now c.in-Ok.log log (whole_text c.args.bytes.now c.new-reader.result c.in-Ok.log c.new-reader.ensures c.in-Ok.ensures.read) text

pub returns-in-Err-Fault-clause-every_text : goal.returns-in-Err-Fault-clause-every_text
returns-in-Err-Fault-clause-every_text c =
    let bytes = c.args.bytes.now in
    let U : Unread → Type 0 = λ unread. IsUnread AtStatus c.new-reader.result c.read_log.new.reader unread in
    let faulty = sym (whole_fault bytes c.new-reader.result c.new-reader.ensures) ∙ subst U c.in-Err-Fault.field-0-is c.in-Err-Fault.ensures.unread in
    λ log text. absurd (no_log bytes c.read_log.new.reader.line (cause_of c.in-Err-Fault.fault) log faulty text)

pub returns-in-Err-Fault-clause-refused : goal.returns-in-Err-Fault-clause-refused
returns-in-Err-Fault-clause-refused c =
    let bytes = c.args.bytes.now in
    let U : Unread → Type 0 = λ unread. IsUnread AtStatus c.new-reader.result c.read_log.new.reader unread in
    let faulty = sym (whole_fault bytes c.new-reader.result c.new-reader.ensures) ∙ subst U c.in-Err-Fault.field-0-is c.in-Err-Fault.ensures.unread in
    let N : ℕ → Type 0 = λ n. text_fault bytes ≡ Some (n, c.cause_of.result) in
    let C : LogCause → Type 0 = λ cause. text_fault bytes ≡ Some (c.read_log.new.reader.line, cause) in
    subst N (sym c.line.ensures) (subst C (sym c.cause_of.ensures) faulty)
