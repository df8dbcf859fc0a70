use Rattle.std.proofs.Common.{ap, codes}
use Rattle.spe_words.specs.Found.{kind_word}
use Rattle.spe_words.proofs.CommandLemmas.{kind_answer, kind_refused}
use Rattle.spe_words.proofs.read.read_kind.Goals as goal

pub returns-in-Err : goal.returns-in-Err
returns-in-Err c = kind_refused c.args.kind _ _ c.in-Err.fault c.requires.options c.in-Err.ensures

pub returns-in-Rows : goal.returns-in-Rows
returns-in-Rows c = kind_answer c.args.kind _ _ (codes "rows") c.in-Ok.found _ c.requires.options c.in-Ok.ensures (ap kind_word c.in-Rows.is) c.rows.ensures

pub returns-in-Check : goal.returns-in-Check
returns-in-Check c = kind_answer c.args.kind _ _ (codes "check") c.in-Ok.found _ c.requires.options c.in-Ok.ensures (ap kind_word c.in-Check.is) c.check.ensures

pub returns-in-Prepare : goal.returns-in-Prepare
returns-in-Prepare c = kind_answer c.args.kind _ _ (codes "prepare") c.in-Ok.found _ c.requires.options c.in-Ok.ensures (ap kind_word c.in-Prepare.is) c.prepare.ensures

pub returns-in-Release : goal.returns-in-Release
returns-in-Release c = kind_answer c.args.kind _ _ (codes "release") c.in-Ok.found _ c.requires.options c.in-Ok.ensures (ap kind_word c.in-Release.is) c.release.ensures

pub returns-in-Run : goal.returns-in-Run
returns-in-Run c = kind_answer c.args.kind _ _ (codes "run") c.in-Ok.found _ c.requires.options c.in-Ok.ensures (ap kind_word c.in-Run.is) c.run.ensures

pub returns : goal.returns
returns c = kind_answer c.args.kind _ _ (codes "work") c.in-Ok.found _ c.requires.options c.in-Ok.ensures (ap kind_word c.in-Work.is) c.work.ensures
