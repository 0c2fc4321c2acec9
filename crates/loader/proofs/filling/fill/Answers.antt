-- `loader::filling::fill` meets its contract. Assumes nothing.
use Prim.Native.Nat.{ℕ, ◌*◌}
use mathlib.Core.List.{List}
use mathlib.Core.Path.{◌≡◌, refl, sym, ap, ◌∙◌}
use native.Mathlib.Omega.{arith}
use borrow.Author.Rules.{rules}
use Rattle.std.specs.Prelude.{Result, Ok}
use Rattle.inst_decode.specs.declared.DecodeError.{DecodeError}
use Rattle.inst_decode.specs.declared.Decoded.{Decoded}
use Rattle.inst_decode.specs.Decode.{reads, means, from_bytes}
use Rattle.inst_decode.proofs.Facts.{read_in_lem}
use Rattle.tables.specs.Tables.{bytes_of, inst_numbers}
use Rattle.machine.proofs.Loads.{parsed}
use Rattle.loader.proofs.Stores.{put_long}
use Rattle.loader.proofs.Fillings.{filling_begins, filling_next, filling_room, filling_ok, filling_ends}
use Rattle.loader.proofs.filling.fill.Goals as goal

-- the instruction that was decoded
read : (image : List ℕ) (at : ℕ) {r : Result Decoded DecodeError} {d : Decoded} → means r ≡ from_bytes image at → r ≡ Ok d → from_bytes image at ≡ reads d.inst d.size
read image at e f = sym e ∙ ap means f

pub loop-at-init : goal.loop-at-init
loop-at-init c = (refl, filling_begins _ _)

pub unwrap-size-requires : goal.unwrap-size-requires
unwrap-size-requires c = filling_ok _ _ _ _ _ c.loop-at.invariant.1 c.loop-at-test.true _ c.requires.accepts _ c.from_bytes.ensures

pub put-requires : goal.put-requires
put-requires c =
    let r = filling_room _ _ _ _ _ c.loop-at.invariant.1 c.loop-at-test.true _ _ (read _ _ c.from_bytes.ensures c.unwrap-size.ensures) _ c.requires.accepts in
    omega (arith, r, c.loop-at.invariant.0, c.requires.inst_limit_in_bounds)

pub overflow_add-at : goal.overflow_add-at
overflow_add-at c =
    let k = (read_in_lem _ _ _ _ (read _ _ c.from_bytes.ensures c.unwrap-size.ensures)).inside in
    record { fits = search rules }

pub overflow_add-n : goal.overflow_add-n
overflow_add-n c =
    let r = filling_room _ _ _ _ _ c.loop-at.invariant.1 c.loop-at-test.true _ _ (read _ _ c.from_bytes.ensures c.unwrap-size.ensures) _ c.requires.accepts in
    record { fits = omega (arith, r) }

pub loop-at-smaller : goal.loop-at-smaller
loop-at-smaller c =
    let k = read_in_lem _ _ _ _ (read _ _ c.from_bytes.ensures c.unwrap-size.ensures) in
    omega (arith, k.moves, k.inside)

pub loop-at-preserved : goal.loop-at-preserved
loop-at-preserved c = (
  put_long c.loop-at.insts _ (bytes_of (inst_numbers c.unwrap-size.result.inst)) (c.loop-at.n * 32) c.put.ensures ∙ c.loop-at.invariant.0,
  filling_next _ _ _ _ _ c.loop-at.invariant.1 c.loop-at-test.true _ _ (read _ _ c.from_bytes.ensures c.unwrap-size.ensures) _ c.put.ensures,
)

pub close-requires : goal.close-requires
close-requires c =
    let a = c.requires.accepts in
    let k = (parsed _ a.loaded a.is).passes.fits in
    let n = a.count_is in
    omega (arith, k, n, c.requires.inst_limit_in_bounds, c.loop-at.invariant.0)

pub returns : goal.returns
returns c = filling_ends _ _ _ _ _ c.loop-at.invariant.1 c.loop-at-test.false _ c.requires.accepts _ c.close.ensures
