use Rattle.std.proofs.Common.{◌≡◌, rules, sym, true, false}
use Rattle.spe_model.specs.Journal.{saved_of, is_right}
use Rattle.spe_journal.proofs.PiecesLemmas.{saved_in-right, saved_in-wrong, saved_in-torn}
use Rattle.spe_journal.proofs.record.record_at.Goals as goal

pub returns-then-page-eq0-clause-last : goal.returns-then-page-eq0-clause-last
returns-then-page-eq0-clause-last c =
    let wrong : false ≡ is_right c.args.nonce c.args.page_size c.args.piece.now = search rules in
    λ rest. saved_in-wrong c.args.nonce c.args.page_size c.args.piece.now rest c.requires (sym wrong)

pub returns-clause-first : goal.returns-clause-first
returns-clause-first c =
    let right : true ≡ is_right c.args.nonce c.args.page_size c.args.piece.now = search rules in
    let saved : record { page = c.u32_of-page.result; content = c.split_at-2.result.0.now } ≡ saved_of c.args.page_size c.args.piece.now = search rules in
    λ rest. rw saved (saved_in-right c.args.nonce c.args.page_size c.args.piece.now rest c.requires (sym right))

pub returns-clause-short : goal.returns-clause-short
returns-clause-short c = λ rest short. saved_in-torn c.args.nonce c.args.page_size rest short

pub returns-then-page-eq0-clause-short : goal.returns-then-page-eq0-clause-short
returns-then-page-eq0-clause-short c = λ rest short. saved_in-torn c.args.nonce c.args.page_size rest short
