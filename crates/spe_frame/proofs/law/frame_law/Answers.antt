use Rattle.spe_frame.proofs.FramedLemmas.{frame_is_framed, frame_stays, framed_is_frame}
use Rattle.spe_frame.proofs.law.frame_law.Goals as goal

pub returns : goal.returns
returns g c = record {
  stays = frame_stays g.S.Pages (λ s. (g.met.S.Pages.bounded s).1);
  framed = frame_is_framed g.S.Pages;
  frame = framed_is_frame g.S.Pages;
}
