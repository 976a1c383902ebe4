use Rattle.std.proofs.Common.{length, ◌≡◌, ◌∙◌, arith}
use Rattle.std.proofs.lemmas.List.{length-take-le}
use Rattle.hp_io.proofs.Told.{next_of}
use Rattle.hp_io.proofs.mem_source.MemSourceSource.read.Goals as goal

pub returns-clause-next : goal.returns-clause-next
returns-clause-next c =
    let n = c.min-count.result in
    let len : length c.copy_from_slice.new.self ≡ n =
    c.copy_from_slice.ensures.len ∙ length-take-le n c.args.buf.now (omega (arith, c.min-count.ensures, c.min.ensures)) in
    next_of c.args.self.now.bytes.items c.deref-2.result.now c.copy_from_slice.new.self c.args.buf.now
    c.args.self.now.at n c.deref-2.ensures.value c.copy_from_slice.ensures.after len
