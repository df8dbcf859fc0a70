use Rattle.std.proofs.Common.{◌≡◌, ◌≤◌, ◌++◌, ℕ, length, true}
use Rattle.spe_model.specs.declared.file.FileNo.TheVariants.{Journal}
use Rattle.spe_model.specs.Content.{file_of}
use Rattle.spe_model.specs.Trace.{present}
use Rattle.spe_disk.specs.Told.{absent_below, makings}
use Rattle.spe_disk.specs.Memory.{first_files, trace_of, history_of, is_attached, read_fault_count, op_fault_count, read_count, free_room, IsSameDisk, AreMadeAsListed}
use Rattle.spe_disk.proofs.mem_disk.MemDiskDisk.make_journals.Given as goal

abbrev pub invariant-loop-number : goal.invariant-loop-number
invariant-loop-number l = record {
  attached : is_attached l.self ≡ true;
  first : first_files l.self ≡ first_files l.fn.self;
  trace : trace_of l.self ≡ trace_of l.fn.self ++ makings (absent_below (present (history_of l.fn.self)) l.number);
  count : l.made ≡ length (absent_below (present (history_of l.fn.self)) l.number);
  few : l.made ≤ l.number;
  later : (j : ℕ) → l.number ≤ j → file_of (present (history_of l.self)) (Journal j) ≡ file_of (present (history_of l.fn.self)) (Journal j);
  readings : read_fault_count l.self ≡ read_fault_count l.fn.self;
  reads : read_count l.self ≡ read_count l.fn.self;
  room : free_room l.self ≡ free_room l.fn.self;
  disk : IsSameDisk l.fn.self l.self;
  listed : AreMadeAsListed (absent_below (present (history_of l.fn.self)) l.number) l.fn.self l.self;
  counted : op_fault_count l.fn.self ≤ op_fault_count l.self;
}
