-- `machine_bytes::machine_crosses` meets its contract. Assumes nothing.
use Rattle.machine_bytes.proofs.Back.{is_a_machine, machine_back}
use Rattle.machine_bytes.proofs.machine_crosses.Goals as goal

pub returns : goal.returns
returns c = record { is_a_machine = is_a_machine; comes_back = machine_back }
