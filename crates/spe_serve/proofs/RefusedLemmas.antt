-- Answers without pages.
use Rattle.std.proofs.Common.{◌≡◌, true}
use Rattle.std.specs.Prelude.{IfOk}
use Rattle.spe_model.specs.declared.recovery.RecoverFault.{RecoverFault}
use Rattle.spe_model.specs.declared.recovery.RecoverFault.TheVariants as refusals
use Rattle.spe_words.specs.declared.command.Command.{Command}
use Rattle.spe_words.specs.declared.command.Command.TheVariants as commands
use Rattle.spe_serve.specs.Answer.{is_built}
use Rattle.spe_serve.specs.Ending.{refused_for}
use Rattle.spe_serve.specs.Reply.{IsAbout, IsPlain}
use Rattle.spe_serve.specs.declared.reply.Reply.TheVariants as replies

pub refused_built : (c : Command) (fault : RecoverFault) → is_built c ≡ true → IsPlain fault → IsAbout c (replies.Refused fault)
refused_built (commands.Rows db table) fault built plain = plain
refused_built (commands.Check db) fault built plain = plain
refused_built (commands.Prepare db lists) fault built plain = plain
refused_built (commands.Release db) fault built plain = plain
refused_built (commands.Run db scripts workers retries slots) fault built plain = absurd cc
refused_built (commands.Work db seed count) fault built plain = absurd cc

pub refused_about : (c : Command) (fault : RecoverFault) → is_built c ≡ true → IfOk (refused_for fault) (IsAbout c)
refused_about c refusals.Disk built = tt
refused_about c refusals.Memory built = tt
refused_about c (refusals.Header fault) built = refused_built c (refusals.Header fault) built tt
refused_about c (refusals.JournalPage id size) built = refused_built c (refusals.JournalPage id size) built tt
refused_about c (refusals.Overlap page a b) built = refused_built c (refusals.Overlap page a b) built tt
refused_about c (refusals.TooLarge pages) built = refused_built c (refusals.TooLarge pages) built tt
refused_about c (refusals.ShortFile pages bytes) built = refused_built c (refusals.ShortFile pages bytes) built tt
refused_about c refusals.NotPrepared built = refused_built c refusals.NotPrepared built tt
