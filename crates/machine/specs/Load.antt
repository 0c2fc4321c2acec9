-- The loader (Mm::from_binary), as document 01 has it: a number, or the records, the label chain and the fresh machine.
use Rattle.std.specs.Prelude.{ℕ, zero, suc, ◌+◌, Bool, false, cond, ◌||◌, List, [], ◌∷◌, ◌++◌, eqb, ltb, leb, length, drop, replicate}
use Rattle.std.proofs.lemmas.List.Edits.{sets}
use Rattle.inst.specs.declared.Inst.{Inst}
use Rattle.inst.specs.Records.{part, plain, same}
use Rattle.inst_decode.specs.Decode.{Answer, refused, reads, from_bytes}
use Rattle.machine.specs.declared.Machine.{Machine}
use Rattle.machine.specs.declared.Label.{Label}
use Rattle.machine.specs.Limits.{stack_limit, call_limit, memory_size, image_limit, inst_limit, label_records}

-- first bytes that the loader looks for
abbrev pub is_label : Inst → Bool
is_label i = eqb i.typ 21

abbrev pub is_native : Inst → Bool
is_native i = eqb i.typ 37

abbrev pub is_halt : Inst → Bool
is_halt i = eqb i.typ 69

abbrev pub halt : Inst
halt = plain 69 0

abbrev pub name_of : List ℕ → Label → List ℕ
name_of image l = part image l.start l.len

-- `_start`
abbrev pub start_name : List ℕ
start_name = 95 ∷ 115 ∷ 116 ∷ 97 ∷ 114 ∷ 116 ∷ []

-- the label table

-- record 0 is the head, zero but for next; next 0 ends the chain
abbrev pub head : ℕ → Label
head n = record { start = 0; len = 0; target = 0; next = n }

-- a new definition is linked first: the head leads to it, and it to what the head led to
unfoldable pub linked : Inst → ℕ → List Label → List Label
linked i index [] = []
linked i index (h ∷ ls) =
    head (suc (length ls)) ∷ ls ++ (record { start = i.start; len = i.len; target = index; next = h.next } ∷ [])

-- reading

-- how far an image was read: the next byte, the instructions so far and the label table so far
pub record Scan : Type 0 where
  pub at : ℕ
  pub insts : List Inst
  pub labels : List Label

pub data Scanned : Type 0 where
  stops : ℕ → Scanned
  goes : Scan → Scanned

abbrev pub begin : Scan
begin = record { at = 0; insts = []; labels = head 0 ∷ [] }

abbrev pub added : Scan → Inst → ℕ → List Label → Scanned
added s i size labels = goes (record { at = s.at + size; insts = s.insts ++ (i ∷ []); labels = labels })

-- one instruction more: 2, 3 or 4, then 5, 6. Each LABEL is an instruction and its target is its own index
unfoldable pub scan_one : Scan → Answer → Scanned
scan_one s (refused n) = stops n
scan_one s (reads i size) =
    cond (leb inst_limit (length s.insts)) (stops 5)
    (cond (is_label i)
    (cond (leb label_records (length s.labels)) (stops 6) (added s i size (linked i (length s.insts) s.labels)))
    (added s i size s.labels))

unfoldable pub and_then : (Scan → Scanned) → Scanned → Scanned
and_then rest (stops n) = stops n
and_then rest (goes s) = rest s

-- instruction by instruction to the last byte; there are at most as many as bytes
unfoldable pub scan : ℕ → List ℕ → Scan → Scanned
scan zero image s = goes s
scan (suc fuel) image s =
    cond (ltb s.at (length image)) (and_then (scan fuel image) (scan_one s (from_bytes image s.at))) (goes s)

-- after the last byte

pub data Entry : Type 0 where
  no_entry : Entry
  entry : ℕ → Entry

-- the target of the last definition of a name; e stands for the definitions before
unfoldable pub last_of : List ℕ → List ℕ → Entry → List Label → Entry
last_of image name e [] = e
last_of image name e (l ∷ ls) = last_of image name (cond (same name (name_of image l)) (entry l.target) e) ls

unfoldable pub any_native : List Inst → Bool
any_native [] = false
any_native (i ∷ is) = is_native i || any_native is

unfoldable pub last_is_halt : List Inst → Bool
last_is_halt [] = false
last_is_halt (i ∷ []) = is_halt i
last_is_halt (i ∷ j ∷ is) = last_is_halt (j ∷ is)

-- HALT is appended unless the last instruction is HALT
unfoldable pub closed : List Inst → List Inst
closed is = cond (last_is_halt is) is (is ++ (halt ∷ []))

-- what an accepted image gives: its instructions, the label records from the head on, and the pointer
pub record Loaded : Type 0 where
  pub insts : List Inst
  pub labels : List Label
  pub ip : ℕ

pub data Load : Type 0 where
  rejects : ℕ → Load
  accepts : Loaded → Load

-- 5 again; 8
unfoldable pub checked : Loaded → Load
checked l = cond (ltb inst_limit (length l.insts)) (rejects 5) (cond (any_native l.insts) (rejects 8) (accepts l))

-- 7, then HALT is appended
unfoldable pub entered : Scan → Entry → Load
entered s no_entry = rejects 7
entered s (entry e) = checked (record { insts = closed s.insts; labels = s.labels; ip = e })

unfoldable pub finished : List ℕ → Scanned → Load
finished image (stops n) = rejects n
finished image (goes s) = entered s (last_of image start_name no_entry (drop 1 s.labels))

-- what an image gives, whatever tables are lent: 1, then instruction by instruction
unfoldable pub loads : List ℕ → Load
loads image = cond (ltb image_limit (length image)) (rejects 1) (finished image (scan (length image) image begin))

-- the call, with the lent tables: 10 first
unfoldable pub load : List ℕ → List Inst → List Label → Load
load image insts labels =
    cond (ltb (length insts) inst_limit || ltb (length labels) label_records) (rejects 10) (loads image)

-- a lent table after the call: the records stored from its front on, slots past those filled unchanged
unfoldable pub insts_after : Load → List Inst → List Inst
insts_after (rejects n) insts = insts
insts_after (accepts l) insts = sets insts 0 l.insts

unfoldable pub labels_after : Load → List Label → List Label
labels_after (rejects n) labels = labels
labels_after (accepts l) labels = sets labels 0 l.labels

-- the fresh machine: not halted, empty stacks with every slot 0, zero bytes, flags 0
unfoldable pub fresh : Loaded → Machine
fresh l =
    record {
      stack = replicate stack_limit 0;
      height = 0;
      calls = replicate call_limit 0;
      call_height = 0;
      memory = replicate memory_size 0;
      flags = 0;
      ip = l.ip;
      halted = false;
    }

-- the program's length is the count of loaded instructions, an appended HALT included
abbrev pub count_of : Loaded → ℕ
count_of l = length l.insts
