-- `machine_bytes::write_arrays` meets its contract. Assumes nothing.
use Rattle.machine_bytes.proofs.Fields.{arrays_stored, length_arrays}
use Rattle.machine_bytes.proofs.write_arrays.Goals as goal

pub returns : goal.returns
returns c = record { machine_after = arrays_stored c.args.stack.now c.args.calls.now c.args.memory.now c.told-stack c.told-calls c.told-memory _ _ _ _ c.told-machine c.write_numbers.ensures c.write_numbers-2.ensures c.copy_from_slice.ensures.after; memory_len = length_arrays c.args.stack.now c.args.calls.now c.args.memory.now c.told-stack c.told-calls c.told-memory }
