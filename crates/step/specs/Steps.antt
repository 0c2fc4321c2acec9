-- What the general step comes to, whatever the labels are.
use Rattle.std.specs.Prelude.{ℕ, ◌≡◌, ◌≤◌, true, false, List, Option, None, IfSome, Result, Ok, Err, IfOk}
use Rattle.std.specs.Borrow.{Bor}
use Rattle.inst.specs.Records.{part, name_in}
use Rattle.machine.specs.declared.Machine.{Machine}
use Rattle.machine.specs.declared.Label.{Label}
use Rattle.machine.specs.Lookup.{Program, Found, lookup}
use Rattle.machine.specs.Step.{Stepped, step, exec, op_of}
use Rattle.tables.specs.Tables.{inst, insts_of, inst_of}
use Rattle.step_core.specs.declared.Registers.{Registers}
use Rattle.step_core.specs.declared.Executed.{Executed}
use Rattle.step_core.specs.declared.Arrays.{Arrays}
use Rattle.step_core.specs.Parts.{of_parts, means, Small, Untaken, Acts, found_of, LookedUp}
use Rattle.lookup.specs.Walks.{lent_program}
use Rattle.known.specs.declared.Known.{Known}
use Rattle.known.specs.Known.{AllKnown, Listed}

-- with the flags f, the answer r means the step st; s' and so on are left of the arrays s, ca, me, and no step is taken unless they are as before
pub record Made (st : Stepped) (f : ℕ) (s ca me : List ℕ) (r : Executed) (s' ca' me' : List ℕ) : Type 0 where
  pub does : means f r s' ca' me' ≡ st
  pub small : Small r
  pub kept : Untaken r ((s' ≡ s) × (ca' ≡ ca) × (me' ≡ me))

-- a jump or CALL with the first byte op, whatever the arrays are that it doesn't see
abbrev pub Jumps : ℕ → Found → Registers → ℕ → List ℕ → Executed → List ℕ → Type 0
Jumps op found c f ca r ca' =
    (v start len : ℕ) (s me : List ℕ) → Made (exec found (inst op v start len) (of_parts c f s ca me false) (op_of op)) f s ca me r s ca' me

-- any other instruction: `found` and its name don't count
abbrev pub Executes : ℕ → ℕ → Registers → Arrays → Executed → Arrays → Type 0
Executes op v c a r b =
    (found : Found) (start len : ℕ) → Acts (λ (m : Machine). exec found (inst op v start len) m (op_of op)) c a.stack a.calls a.memory r b.stack b.calls b.memory

-- these bytes are the name of the instruction at the index ip of the table xs, which lies in the image
abbrev pub NamedAt : List ℕ → List ℕ → ℕ → List ℕ → Type 0
NamedAt image xs ip name =
    let i = inst_of xs ip in
    (name_in image i.start i.len ≡ true) × (name ≡ part image i.start i.len)

-- what `asked` says of the instruction at the index ip: nothing, or what its lookup finds
abbrev pub Told : Program → List ℕ → ℕ → Option LookedUp → Type 0
Told p xs ip asked = IfSome asked (λ found. found_of found ≡ lookup p (inst_of xs ip))

-- what a run lends beside its program: what it knows of its instructions, and the machine's arrays
pub record Lent : Type 0 where
  pub known : Known
  pub stack : List ℕ
  pub calls : List ℕ
  pub memory : List ℕ

abbrev pub lent : Known → Arrays → Lent
lent known a = record { known = known; stack = a.stack; calls = a.calls; memory = a.memory }

-- what a step answers
abbrev pub Tried : Type 0
Tried = Result Executed (Bor (List ℕ))

-- the definition's step; or, with nothing changed, the lookup of the instruction's name is asked for
abbrev pub IsTried : Program → List ℕ → Registers → ℕ → Option LookedUp → Lent → Tried → Lent → Type 0
IsTried p xs c f asked a (Ok e) b =
    Made (step p (of_parts c f a.stack a.calls a.memory false)) f a.stack a.calls a.memory e b.stack b.calls b.memory
    × (AllKnown p xs a.known → AllKnown p xs b.known)
IsTried p xs c f asked a (Err name) b = (asked ≡ None) × NamedAt p.image xs c.ip name.now × (b ≡ a)

pub record Tries (image xs : List ℕ) (count : ℕ) (c : Registers) (f : ℕ) (asked : Option LookedUp) (a : Lent) (r : Tried) (b : Lent) : Type 0 where
  pub small : IfOk r Small
  pub listed : (n : ℕ) → count ≤ n → Listed n a.known → Listed n b.known
  pub tried : (labels : List Label) → Told (lent_program image (insts_of xs) labels count) xs c.ip asked →
      IsTried (lent_program image (insts_of xs) labels count) xs c f asked a r b
