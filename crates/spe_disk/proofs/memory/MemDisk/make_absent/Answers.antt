use Rattle.std.proofs.Common.{◌≡◌, ◌++◌, ◌∷◌, [], ap, ◌∙◌, sym, refl, true, false, unwrap_or, inl, inr, rules, append-nil}
use Rattle.std.specs.Prelude.{is_none}
use Rattle.spe_model.specs.declared.file.FileNo.TheVariants.{Journal}
use Rattle.spe_model.specs.Content.{file_of}
use Rattle.spe_model.specs.Trace.{present}
use Rattle.spe_model.specs.Trace.Operation.{Cut}
use Rattle.spe_disk.specs.Memory.{trace_of, first_files, history_of}
use Rattle.spe_disk.proofs.JournalLemmas.{absent_is, there_is, other_file}
use Rattle.spe_disk.proofs.ListedLemmas.{made_none, made_one, failed_one}
use Rattle.spe_disk.proofs.StopLemmas.{made_last}
use Rattle.spe_disk.proofs.memory.MemDisk.make_absent.Goals as goal

pub returns-then-is_some-clause-count : goal.returns-then-is_some-clause-count
returns-then-is_some-clause-count c =
    let there : is_none (file_of (present (history_of c.args.self.now)) (Journal c.args.number)) ≡ false = search rules in
    rw (there_is _ c.args.number there) refl

pub returns-then-is_some-clause-made : goal.returns-then-is_some-clause-made
returns-then-is_some-clause-made c =
    let there : is_none (file_of (present (history_of c.args.self.now)) (Journal c.args.number)) ≡ false = search rules in
    rw (there_is _ c.args.number there) (sym (append-nil (trace_of c.args.self.now)))

pub returns-in-Ok-clause-count : goal.returns-in-Ok-clause-count
returns-in-Ok-clause-count c =
    let gone : is_none (file_of (present (history_of c.args.self.now)) (Journal c.args.number)) ≡ true = search rules in
    rw (absent_is _ c.args.number gone) refl

pub returns-in-Ok-clause-made : goal.returns-in-Ok-clause-made
returns-in-Ok-clause-made c =
    let gone : is_none (file_of (present (history_of c.args.self.now)) (Journal c.args.number)) ≡ true = search rules in
    let trace : trace_of c.cut.new.self ≡ trace_of c.args.self.now ++ Cut (Journal c.args.number) 0 ∷ [] = ap (λ o. (unwrap_or o (history_of c.args.self.now)).trace) c.in-Ok.ensures.cut in
    rw (absent_is _ c.args.number gone) trace

pub returns-in-Ok-clause-others : goal.returns-in-Ok-clause-others
returns-in-Ok-clause-others c = λ j other.
    let trace : trace_of c.cut.new.self ≡ trace_of c.args.self.now ++ Cut (Journal c.args.number) 0 ∷ [] = ap (λ o. (unwrap_or o (history_of c.args.self.now)).trace) c.in-Ok.ensures.cut in
    let first : first_files c.cut.new.self ≡ first_files c.args.self.now = ap (λ o. (unwrap_or o (history_of c.args.self.now)).first) c.in-Ok.ensures.cut in
    rw (first, trace, made_last (first_files c.args.self.now) (trace_of c.args.self.now) (Cut (Journal c.args.number) 0)) (other_file _ c.args.number j 0 other)

pub returns-in-Err-clause-some : goal.returns-in-Err-clause-some
returns-in-Err-clause-some c =
    let gone : is_none (file_of (present (history_of c.args.self.now)) (Journal c.args.number)) ≡ true = search rules in
    let one = absent_is (present (history_of c.args.self.now)) c.args.number gone in
    elim c.in-Err.ensures.cut [
      | inl same ↦ ([], c.args.number ∷ [], one, ap (λ o. (unwrap_or o (history_of c.args.self.now)).trace) same ∙ sym (append-nil (trace_of c.args.self.now)))
      | inr made ↦ (c.args.number ∷ [], [], one, ap (λ o. (unwrap_or o (history_of c.args.self.now)).trace) made)
    ]

pub returns-then-is_some-clause-listed : goal.returns-then-is_some-clause-listed
returns-then-is_some-clause-listed c =
    let there : is_none (file_of (present (history_of c.args.self.now)) (Journal c.args.number)) ≡ false = search rules in
    made_none _ c.args.self.now (there_is _ c.args.number there)

pub returns-in-Ok-clause-listed : goal.returns-in-Ok-clause-listed
returns-in-Ok-clause-listed c =
    let gone : is_none (file_of (present (history_of c.args.self.now)) (Journal c.args.number)) ≡ true = search rules in
    made_one _ c.args.number c.args.self.now c.cut.new.self (absent_is _ c.args.number gone) c.in-Ok.ensures.listed

pub returns-in-Err-clause-failing : goal.returns-in-Err-clause-failing
returns-in-Err-clause-failing c =
    let gone : is_none (file_of (present (history_of c.args.self.now)) (Journal c.args.number)) ≡ true = search rules in
    failed_one _ c.args.number c.args.self.now c.cut.new.self (absent_is _ c.args.number gone) c.in-Err.ensures.listed
