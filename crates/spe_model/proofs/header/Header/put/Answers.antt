use Rattle.std.proofs.Common.{refl, sym, subst}
use Rattle.spe_model.specs.Header.{ReadsBack, with_header}
use Rattle.spe_model.proofs.HeaderLemmas.{reads_back}
use Rattle.spe_model.proofs.header.Header.put.Goals as goal

pub returns-clause-bytes : goal.returns-clause-bytes
unfolding with_header
returns-clause-bytes c =
    rw (
      c.put_u32-8.ensures.bytes,
      c.put_u32-7.ensures.bytes,
      c.put_u32-6.ensures.bytes,
      c.put_u32-5.ensures.bytes,
      c.put_u32-4.ensures.bytes,
      c.put_u32-3.ensures.bytes,
      c.put_u32-2.ensures.bytes,
      c.put_u32.ensures.bytes,
      c.put_u8.ensures.bytes,
      c.put_bytes.ensures.bytes,
      c.size_number-size.ensures,
    ) refl

pub returns-clause-reads_back : goal.returns-clause-reads_back
returns-clause-reads_back c =
    subst (ReadsBack c.args.self.now) (sym (returns-clause-bytes c)) (reads_back c.args.self.now c.args.page.now c.requires record {
      reserved = c.put_u8.ensures.small;
      change = c.put_u32.ensures.small;
      pages = c.put_u32-2.ensures.small;
      first_free = c.put_u32-3.ensures.small;
      free_count = c.put_u32-4.ensures.small;
      cookie = c.put_u32-5.ensures.small;
      schema_format = c.put_u32-6.ensures.small;
      valid_for = c.put_u32-8.ensures.small;
    })
