-- Why there is no answer from a disk.
use Rattle.std.specs.Prelude.{ℕ, ◌⊎◌, IsTrue, Result, Ok, Err}
use Rattle.spe_model.specs.Faults.{Rose}
use Rattle.spe_space.specs.declared.fault.SpaceFault.{SpaceFault}
use Rattle.spe_space.specs.declared.fault.SpaceFault.TheVariants as spaces
use Rattle.spe_space.specs.declared.fault.TreeFault.{TreeFault}
use Rattle.spe_space.specs.declared.fault.TreeFault.TheVariants as trees
use Rattle.spe_room.specs.Admits.{admits_read}
use Rattle.spe_serve.specs.declared.reply.Reply.{Reply}
use Rattle.spe_serve.specs.declared.reply.Reply.TheVariants as replies
use Rattle.spe_serve.specs.declared.failure.Failure.{Failure}
use Rattle.spe_serve.specs.declared.failure.Failure.TheVariants.{Disk, Memory}

-- a fault that a space over the files has
abbrev pub IsOwn : TreeFault → Type 0
IsOwn (trees.Space fault) = IsTrue (admits_read fault)
IsOwn (trees.Corrupt page) = Unit {0}

-- what a fault of such a space comes to: a page that there is not is damage, and the last one is want of memory
abbrev pub faulty_reply : SpaceFault → Result Reply Failure
faulty_reply spaces.Read = Err Disk
faulty_reply (spaces.PageOut page pages) = Ok (replies.Corrupt page)
faulty_reply _ = Err Memory

-- what a search of a space comes to: damage is an answer
abbrev pub reply_or_failure : Result Reply TreeFault → Result Reply Failure
reply_or_failure (Ok reply) = Ok reply
reply_or_failure (Err (trees.Corrupt page)) = Ok (replies.Corrupt page)
reply_or_failure (Err (trees.Space fault)) = faulty_reply fault

-- a count of faults has risen where the disk failed
abbrev pub IsCausedBy : ℕ → ℕ → Failure → Type 0
IsCausedBy before now Disk = Rose before now
IsCausedBy before now Memory = Unit {0}

-- one of two counts has
abbrev pub IsCausedByEither : (reads reads_now ops ops_now : ℕ) → Failure → Type 0
IsCausedByEither reads reads_now ops ops_now Disk = Rose reads reads_now ⊎ Rose ops ops_now
IsCausedByEither reads reads_now ops ops_now Memory = Unit {0}
