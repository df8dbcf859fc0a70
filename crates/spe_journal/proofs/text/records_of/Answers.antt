use Rattle.std.proofs.Common.{◌≡◌, ℕ, ◌+◌, List, [], ◌∷◌, ◌++◌, refl, arith, sym, ap, ◌∙◌}
use Rattle.std.proofs.lemmas.List.Elements.{All-push}
use Rattle.spe_model.specs.Journal.{Saved}
use Rattle.spe_journal.specs.Text.{record_of, IsWhole}
use Rattle.spe_journal.proofs.TextLemmas.{found-more}
use Rattle.std.proofs.lemmas.List.{append-nil}
use Rattle.spe_journal.specs.Saved.{saved_in}
use Rattle.spe_journal.proofs.PiecesLemmas.{saved_in-torn}
use Rattle.spe_journal.proofs.text.records_of.Goals as goal

pub returns-clause-saved : goal.returns-clause-saved
returns-clause-saved c =
    let torn : saved_in c.args.nonce c.args.page_size c.loop-left.left.now ≡ [] =
    saved_in-torn c.args.nonce c.args.page_size c.loop-left.left.now (omega arith) in
    sym (append-nil c.loop-left.found.items) ∙ rw torn at c.loop-left.invariant.saved

pub loop-left-preserved : goal.loop-left-preserved
loop-left-preserved c =
    let copied = c.new.ensures ∙ c.in_ok-from_slice.ensures.items in
    let saved : Saved = record { page = c.in-Some.saved.page; content = c.in-Some.saved.content.now } in
    let pushed : c.push.new.self.items ≡ c.loop-left.found.items ++ record_of saved ∷ [] =
    c.in_ok-push.ensures.items ∙ ap (λ (content : List ℕ). c.loop-left.found.items ++ record { page = saved.page; content = content } ∷ []) copied in
    record {
      size = refl;
      whole = rw pushed (All-push (IsWhole c.args.page_size) c.loop-left.found.items (record_of saved) c.loop-left.invariant.whole c.in-Some.ensures.whole);
      saved = found-more c.args.nonce c.args.page_size (c.args.page_size + 8) c.loop-left.left.now c.split_at.result.0.now c.split_at.result.1.now saved
          c.loop-left.found.items c.push.new.self.items _ c.split_at.ensures.front c.split_at.ensures.back (c.in-Some.ensures.first c.split_at.result.1.now)
          pushed c.loop-left.invariant.saved;
    }
