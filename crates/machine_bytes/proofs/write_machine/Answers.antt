-- `machine_bytes::write_machine` meets its contract. Assumes nothing.
use Rattle.machine_bytes.proofs.Fields.{parts_stored}
use Rattle.machine_bytes.proofs.write_machine.Goals as goal

pub returns : goal.returns
returns c = parts_stored _ _ _ c.args.machine.now c.args.m.now.stack c.args.m.now.calls c.args.m.now.memory _ _ c.told-machine c.write_arrays.ensures.machine_after c.write_arrays.ensures.memory_len (rw c.from.ensures at c.write_registers.ensures)
