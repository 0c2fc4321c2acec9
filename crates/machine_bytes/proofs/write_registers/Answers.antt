-- `machine_bytes::write_registers` meets its contract. Assumes nothing.
use Rattle.machine_bytes.proofs.Fields.{byte_is, regs_stored}
use Rattle.machine_bytes.proofs.write_registers.Goals as goal

pub returns : goal.returns
returns c = rw (c.from.ensures, byte_is c.args.halted) (regs_stored _ _ _ _ _ _ _ _ _ c.put_word.ensures c.put_word-2.ensures c.put_word-3.ensures)
