-- What a reader gives, and what a function of the code gives of it.
use Rattle.std.specs.Prelude.{◌≡◌, ◌≤◌, ◌++◌, ℕ, List, drop, length, Result, Ok, Err}
use Rattle.nquads_text.specs.declared.fault.TextKind.{TextKind}
use Rattle.nquads_text.specs.declared.fault.ReadFault.{ReadFault}
use Rattle.nquads_text.specs.declared.fault.ReadFault.TheVariants as faults

-- a kind, and the text from its place on
abbrev pub TextFault : Type 0
TextFault = TextKind × List ℕ

-- a value and the text behind it, or the first fault
abbrev pub TextRead : Type 0 → Type 0
TextRead X = Result (X × List ℕ) TextFault

infixl 10 ◌>>=◌
abbrev pub ◌>>=◌ : {A B : Type 0} → Result A TextFault → (A → Result B TextFault)
    → Result B TextFault
(Ok x) >>= f = f x
(Err e) >>= f = Err e

-- The error is the fault that reading meets, at its place in the text, or want of memory.
abbrev pub Fails : {Y : Type 0} → List ℕ → ReadFault → TextRead Y → Type 0
Fails text (faults.At at kind) read = (read ≡ Err (kind, drop at text)) × (at ≤ length text)
Fails text faults.OutOfMemory read = Unit {0}

-- The result, seen by view, is what reading gives, places standing for the text from there on.
abbrev pub Gives : {X Y : Type 0} → List ℕ → (X → Y) → Result (X × ℕ) ReadFault
    → TextRead Y → Type 0
Gives text view (Ok x) read = (read ≡ Ok (view x.0, drop x.1 text)) × (x.1 ≤ length text)
Gives text view (Err e) read = Fails text e read

-- the text of what is read is appended, and the result is the place behind it; or the first fault
abbrev pub Pushes : {X : Type 0} → (X → List ℕ) → List ℕ → List ℕ → List ℕ → Result ℕ ReadFault
    → TextRead X → Type 0
Pushes {X} text_of text old new (Ok end) read = (x : X) × (read ≡ Ok (x, drop end text))
    × (end ≤ length text) × (new ≡ old ++ text_of x)
Pushes text_of text old new (Err e) read = Fails text e read

-- not for want of memory
abbrev pub IsFault : ReadFault → Type 0
IsFault (faults.At at kind) = Unit {0}
IsFault faults.OutOfMemory = ⊥

-- ---- answers, by relations of what stands in the text

-- The error is a first fault, at its place in the text, or want of memory.
abbrev pub FailsBy : (TextFault → Type 0) → List ℕ → ReadFault → Type 0
FailsBy IsFirst text (faults.At at kind) = IsFirst (kind, drop at text) × (at ≤ length text)
FailsBy IsFirst text faults.OutOfMemory = Unit {0}

-- The result is this value and the place of this text behind it, unless memory ran out.
abbrev pub IsAnswer : {X : Type 0} → List ℕ → Result (X × ℕ) ReadFault → X → List ℕ → Type 0
IsAnswer text (Ok r) x after = (r.0 ≡ x) × (drop r.1 text ≡ after)
IsAnswer text (Err e) x after = e ≡ faults.OutOfMemory

-- The result is this fault at its place, unless memory ran out.
abbrev pub IsFaultAnswer : {X : Type 0} → List ℕ → Result (X × ℕ) ReadFault → TextFault → Type 0
IsFaultAnswer text (Ok r) f = ⊥
IsFaultAnswer text (Err (faults.At at kind)) f = (kind, drop at text) ≡ f
IsFaultAnswer text (Err faults.OutOfMemory) f = Unit {0}
