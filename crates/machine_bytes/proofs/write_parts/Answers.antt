-- `machine_bytes::write_parts` meets its contract. Assumes nothing.
use Rattle.machine_bytes.proofs.Fields.{parts_stored}
use Rattle.machine_bytes.proofs.write_parts.Goals as goal

pub returns : goal.returns
returns c = parts_stored _ _ _ c.args.machine.now c.args.arrays.now.stack c.args.arrays.now.calls c.args.arrays.now.memory _ _ c.told-machine c.write_arrays.ensures.machine_after c.write_arrays.ensures.memory_len c.write_registers.ensures
