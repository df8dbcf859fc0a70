use Rattle.spe_render.proofs.OutcomeReads.{text_tells}
use Rattle.spe_render.proofs.law.text_tells_transcripts.Goals as goal

pub returns : goal.returns
returns c = text_tells
