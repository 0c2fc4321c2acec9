-- `machine_bytes::registers_of` meets its contract. Assumes nothing.
use Rattle.machine_bytes.specs.Layout.{machine_of}
use Rattle.machine_bytes.proofs.registers_of.Goals as goal

pub returns : goal.returns
unfolding machine_of
returns c = rw (c.word_at.ensures, c.word_at-2.ensures, c.word_at-3.ensures)
