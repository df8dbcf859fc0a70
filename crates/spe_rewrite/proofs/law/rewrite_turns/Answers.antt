use Rattle.spe_rewrite.proofs.LawLemmas.{rewrite_turns}
use Rattle.spe_rewrite.proofs.law.rewrite_turns.Goals as goal

pub returns : goal.returns
returns c = record {
  turns =
      rewrite_turns c.at_work_at_opening.ensures.work c.head_written.ensures.work c.page_journalled.ensures.work c.page_written.ensures.work c.journal_cut_at_commit.ensures.work
      c.ends_without_journal.ensures.work;
}
