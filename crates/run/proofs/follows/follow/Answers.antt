-- `run::follows::follow` meets its contract. Assumes nothing.
use mathlib.Core.Path.{refl}
use Rattle.run.proofs.Following.{for_answer, after_next, after_compared, after_dump, after_full, after_halt, after_trap, after_ill}
use Rattle.run.proofs.follows.follow.Goals as goal

pub returns-in-Next : goal.returns-in-Next
returns-in-Next c = record { same_buffer = refl; follows = for_answer c.in-Next.is (rw c.behind.ensures (after_next _ _ _ _ _ c.requires.0 c.args.dumps.now.inside _ (rw c.in-Next.is at c.requires.1))) }

pub returns-in-Compared : goal.returns-in-Compared
returns-in-Compared c = record { same_buffer = refl; follows = for_answer c.in-Compared.is (rw c.behind-in-Compared.ensures (after_compared _ _ _ _ _ c.requires.0 c.args.dumps.now.inside _ _ (rw c.in-Compared.is at c.requires.1))) }

pub returns-in-None : goal.returns-in-None
returns-in-None c =
    let p = rw c.in-None.is at c.push.ensures.pushes in
    record { same_buffer = c.push.ensures.same_buffer; follows = for_answer c.in-Dump.is (rw (c.ends.ensures, p.1, p.2) (after_full _ _ _ _ _ c.requires.0 c.args.dumps.now.inside p.0 _ _)) }

pub returns-in-Some : goal.returns-in-Some
returns-in-Some c =
    let p = rw c.in-Some.is at c.push.ensures.pushes in
    record { same_buffer = c.push.ensures.same_buffer; follows = for_answer c.in-Dump.is (rw (c.behind-in-Some.ensures, p.1, p.2) (after_dump _ _ _ _ _ c.requires.0 c.args.dumps.now.inside p.0 _ _ (rw c.in-Dump.is at c.requires.1))) }

pub returns-in-Halt : goal.returns-in-Halt
returns-in-Halt c = record { same_buffer = refl; follows = for_answer c.in-Halt.is (rw (c.ends-in-Halt.ensures, c.behind-in-Halt.ensures) (after_halt _ _ _ _ _ c.requires.0 c.args.dumps.now.inside _)) }

pub returns-in-Trap : goal.returns-in-Trap
returns-in-Trap c = record { same_buffer = refl; follows = for_answer c.in-Trap.is (rw (c.ends-in-Trap.ensures, c.behind-in-Trap.ensures) (after_trap _ _ _ _ _ c.requires.0 c.args.dumps.now.inside _ _)) }

pub returns-in-Ill : goal.returns-in-Ill
returns-in-Ill c = record { same_buffer = refl; follows = for_answer c.in-Ill.is (rw c.ends-in-Ill.ensures (after_ill _ _ _ _ _ c.requires.0 c.args.dumps.now.inside)) }
