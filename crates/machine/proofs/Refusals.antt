-- A refused load has a number that isn't 0, so a caller knows an accepted one by it. Assumes nothing.
use Prim.Native.Nat.{ℕ, zero, suc, ◌≤◌}
use mathlib.Core.Bool.{◌||◌}
use mathlib.Core.List.{List}
use native.Mathlib.Omega.{arith}
use lib.Dec.{lit≤, ltb}
use lib.ListN.{length, drop}
use Rattle.inst.specs.declared.Inst.{Inst}
use Rattle.inst_decode.specs.Decode.{Answer, refused, reads}
use Rattle.inst.proofs.Laws.{by_test}
use Rattle.inst_decode.proofs.Facts.{Told, told}
use Rattle.machine.specs.declared.Label.{Label}
use Rattle.machine.specs.Limits.{image_limit, inst_limit, label_records}
use Rattle.machine.specs.Load.{start_name, Scan, Scanned, stops, goes, begin, scan_one, and_then, scan, Entry, no_entry, entry, last_of, any_native, Loaded, Load, rejects, accepts, checked, entered, finished, loads, load}
use Rattle.machine.proofs.Loads.{one_case}

abbrev Stops : Scanned → Type 0
Stops (stops n) = 1 ≤ n
Stops (goes s) = Unit {0}

abbrev pub Numbered : Load → Type 0
Numbered (rejects n) = 1 ≤ n
Numbered (accepts l) = Unit {0}

one_stops : (image : List ℕ) (s : Scan) (a : Answer) → Told image s.at a → Stops (scan_one s a)
unfolding scan_one
one_stops image s (refused n) h = omega (arith, h.0)
one_stops image s (reads i size) h = one_case Stops s i size (lit≤ tt) (lit≤ tt) (λ _ _. tt) (λ _. tt)

then_stops : (rest : Scan → Scanned) (x : Scanned) → Stops x → ((s : Scan) → Stops (rest s)) → Stops (and_then rest x)
unfolding and_then
then_stops rest (stops n) h f = h
then_stops rest (goes s) h f = f s

scan_stops : (fuel : ℕ) (image : List ℕ) (s : Scan) → Stops (scan fuel image s)
unfolding scan
scan_stops zero image s = tt
scan_stops (suc fuel) image s =
    by_test Stops (ltb s.at (length image)) _ _ (λ _. then_stops (scan fuel image) _ (one_stops image s _ (told image s.at)) (scan_stops fuel image)) (λ _. tt)

checked_numbered : (l : Loaded) → Numbered (checked l)
unfolding checked
checked_numbered l =
    by_test Numbered (ltb inst_limit (length l.insts)) _ _ (λ _. lit≤ tt) (λ _. by_test Numbered (any_native l.insts) _ _ (λ _. lit≤ tt) (λ _. tt))

entered_numbered : (s : Scan) (e : Entry) → Numbered (entered s e)
unfolding entered
entered_numbered s no_entry = lit≤ tt
entered_numbered s (entry e) = checked_numbered _

finished_numbered : (image : List ℕ) (x : Scanned) → Stops x → Numbered (finished image x)
unfolding finished
finished_numbered image (stops n) h = h
finished_numbered image (goes s) h = entered_numbered s (last_of image start_name no_entry (drop 1 s.labels))

pub load_numbered : (image : List ℕ) (insts : List Inst) (labels : List Label) → Numbered (load image insts labels)
unfolding load loads
load_numbered image insts labels =
    by_test Numbered (ltb (length insts) inst_limit || ltb (length labels) label_records) _ _ (λ _. lit≤ tt)
    (λ _. by_test Numbered (ltb image_limit (length image)) _ _ (λ _. lit≤ tt) (λ _. finished_numbered image _ (scan_stops (length image) image begin)))
