-- What a reader of rows gives, and what a function of the code gives of it.
use Rattle.std.specs.Prelude.{◌≡◌, ◌≤◌, ℕ, List, drop, length, Result, Ok, Err}
use Rattle.std.specs.Borrow.{Bor}
use Rattle.nquads_text.specs.Fault.{TextFault}
use Rattle.nquads_text.specs.declared.fault.ReadFault.{ReadFault}
use Rattle.nquads_text.specs.declared.fault.ReadFault.TheVariants as text
use Rattle.patch_rows.specs.declared.fault.RowKind.{RowKind}
use Rattle.patch_rows.specs.declared.fault.RowKind.TheVariants.{Common}
use Rattle.patch_rows.specs.declared.fault.RowFault.{RowFault}
use Rattle.patch_rows.specs.declared.fault.RowFault.TheVariants as faults

-- a kind, and the text from its place on
abbrev pub Fault : Type 0
Fault = RowKind × List ℕ

-- a value and the text behind it, or the first fault
abbrev pub Read : Type 0 → Type 0
Read X = Result (X × List ℕ) Fault

infixl 10 ◌>>=◌
abbrev pub ◌>>=◌ : {A B : Type 0} → Result A Fault → (A → Result B Fault) → Result B Fault
(Ok x) >>= f = f x
(Err e) >>= f = Err e

-- a fault of terms, as one of rows
abbrev pub as_row_fault : TextFault → Fault
as_row_fault f = (Common f.0, f.1)

-- what a reader of terms gives, with its faults as those of rows
abbrev pub in_row : {X : Type 0} → Result X TextFault → Result X Fault
in_row (Ok x) = Ok x
in_row (Err f) = Err (as_row_fault f)

-- the same of what a function of the code answers
abbrev pub row_fault : ReadFault → RowFault
row_fault (text.At at kind) = faults.At at (Common kind)
row_fault text.OutOfMemory = faults.OutOfMemory

-- The error is the fault that reading meets, at its place in the text, or want of memory.
abbrev pub RowFails : {Y : Type 0} → List ℕ → RowFault → Result Y Fault → Type 0
RowFails text (faults.At at kind) read = (read ≡ Err (kind, drop at text)) × (at ≤ length text)
RowFails text faults.OutOfMemory read = Unit {0}

-- The error is this fault, at its place in the text.
abbrev pub IsThere : List ℕ → RowFault → Fault → Type 0
IsThere text (faults.At at kind) f = (f ≡ (kind, drop at text)) × (at ≤ length text)
IsThere text faults.OutOfMemory f = ⊥

-- The result is what reading gives, places standing for the text from there on.
abbrev pub RowGives : {X : Type 0} → List ℕ → Result (X × ℕ) RowFault → Read X → Type 0
RowGives text (Ok x) read = (read ≡ Ok (x.0, drop x.1 text)) × (x.1 ≤ length text)
RowGives text (Err e) read = RowFails text e read

-- The same where the value is borrowed.
abbrev pub GivesSlice : List ℕ → Result (Bor (List ℕ) × ℕ) RowFault → Read (List ℕ) → Type 0
GivesSlice text (Ok x) read = (read ≡ Ok (x.0.now, drop x.1 text)) × (x.1 ≤ length text)
GivesSlice text (Err e) read = RowFails text e read

-- The same where a reading gives only the text behind.
abbrev pub GivesEnd : List ℕ → Result ℕ RowFault → Result (List ℕ) Fault → Type 0
GivesEnd text (Ok end) read = (read ≡ Ok (drop end text)) × (end ≤ length text)
GivesEnd text (Err e) read = RowFails text e read

-- ---- answers, by relations of what stands in the text

-- The error is a first fault, at its place in the text, or want of memory.
abbrev pub RowFailsBy : (Fault → Type 0) → List ℕ → RowFault → Type 0
RowFailsBy IsFirst text (faults.At at kind) = IsFirst (kind, drop at text) × (at ≤ length text)
RowFailsBy IsFirst text faults.OutOfMemory = Unit {0}

-- The result is this value and the place behind it, unless memory ran out.
abbrev pub IsRowAnswer : {X : Type 0} → Result (X × ℕ) RowFault → X → ℕ → Type 0
IsRowAnswer (Ok r) x end = (r.0 ≡ x) × (r.1 ≡ end)
IsRowAnswer (Err e) x end = e ≡ faults.OutOfMemory

-- The result is this fault at its place, unless memory ran out.
abbrev pub IsRowFaultAnswer : {X : Type 0} → List ℕ → Result (X × ℕ) RowFault → Fault → Type 0
IsRowFaultAnswer text (Ok r) f = ⊥
IsRowFaultAnswer text (Err (faults.At at kind)) f = (kind, drop at text) ≡ f
IsRowFaultAnswer text (Err faults.OutOfMemory) f = Unit {0}
