use Rattle.std.proofs.Common.{◌≡◌, ◌≢◌, ℕ, List, Option, Some, None, Ok, Err, refl, ap, subst, inl, inr}
use Rattle.std.specs.Prelude.{IfSome}
use Rattle.uefi_vars.specs.Vars.{Variables}
use Rattle.boot_commands.specs.declared.fault.ScriptRunFault.{ScriptRunFault}
use Rattle.boot_commands.specs.declared.fault.ScriptRunFault.TheVariants as fault
use Rattle.boot_requests.specs.declared.input_format.InputFormat.{InputFormat}
use Rattle.boot_commands.specs.RunFault.{IsFirstFaultIn, IsFaultUnless}
use Rattle.bootkeep.specs.declared.failure.Failure.{Failure}
use Rattle.bootkeep.specs.declared.failure.Failure.TheVariants as failure
use Rattle.bootkeep.specs.Failure.{IfRefused, IsFailureOf, IsFailureUnless, TellsScriptFault}
use Rattle.bootkeep.proofs.program.run_events.Goals as goal

-- only a failed write is a failed write to the program
of_write : (f : ScriptRunFault) → IsFailureOf f failure.Write → f ≡ fault.Write
of_write fault.Write h = refl
of_write fault.Read h = cc
of_write fault.TooMuch h = cc
of_write fault.OutOfMemory h = cc
of_write (fault.Script f) h = absurd h
of_write (fault.Open f) h = absurd h

pub returns-in-Err-clause-write : goal.returns-in-Err-clause-write
returns-in-Err-clause-write g c = λ is.
    let same : c.from_script.result ≡ failure.Write = cc in
    let told = of_write c.in-Err.fault (subst (IsFailureOf c.in-Err.fault) same c.from_script.ensures.fault) in
    c.in-Err.ensures.run.write (ap (λ (f : ScriptRunFault). Err f) told)

pub returns-in-Err-clause-unwritten : goal.returns-in-Err-clause-unwritten
returns-in-Err-clause-unwritten g c = λ other.
    c.in-Err.ensures.run.unwritten (λ (is : c.in-Err.fault ≡ fault.Write).
    other (subst (λ (f : ScriptRunFault). IsFailureOf f c.from_script.result) is c.from_script.ensures.fault))

-- what the program tells of a fault with words are the words of the first fault
told : (format : InputFormat) (bytes : List ℕ) (vars : Variables) (f : ScriptRunFault) (made : Failure) → IsFailureOf f made
    → (f ≢ fault.Read → f ≢ fault.Write → f ≢ fault.OutOfMemory → IsFirstFaultIn format bytes vars f) → IfRefused made (TellsScriptFault format bytes vars)
told format bytes vars (fault.Script s) (failure.Refused words) is first = (fault.Script s, first (λ e. cc) (λ e. cc) (λ e. cc), is)
told format bytes vars (fault.Open s) (failure.Refused words) is first = (fault.Open s, first (λ e. cc) (λ e. cc) (λ e. cc), is)
told format bytes vars fault.Read (failure.Refused words) is first = cc
told format bytes vars fault.Write (failure.Refused words) is first = cc
told format bytes vars fault.TooMuch (failure.Refused words) is first = cc
told format bytes vars fault.OutOfMemory (failure.Refused words) is first = cc
told format bytes vars f made is first = tt

refused : (known : Option (List ℕ)) (format : InputFormat) (vars : Variables) (f : ScriptRunFault) (made : Failure) → IsFailureOf f made
    → IfSome known (λ bytes. f ≢ fault.Read → f ≢ fault.Write → f ≢ fault.OutOfMemory → IsFirstFaultIn format bytes vars f)
    → IfSome known (λ bytes. IfRefused made (TellsScriptFault format bytes vars))
refused None format vars f made is first = tt
refused (Some bytes) format vars f made is first = told format bytes vars f made is first

-- a failure for one fault is that for the first, or a read failed or memory was refused
unless : (f g : ScriptRunFault) (made : Failure) → IsFailureOf f made → IsFaultUnless {T = Variables} (Err f) g → IsFailureUnless {T = Variables} (Err made) g
unless f g made is (inl e) = let same : f ≡ g = cc in inl (subst (λ (h : ScriptRunFault). IsFailureOf h made) same is)
unless f g made is (inr (inl e)) = let same : f ≡ fault.Read = cc in inr (inl (subst (λ (h : ScriptRunFault). IsFailureOf h made) same is))
unless f g made is (inr (inr e)) = let same : f ≡ fault.OutOfMemory = cc in inr (inr (subst (λ (h : ScriptRunFault). IsFailureOf h made) same is))

only : (known : Option (List ℕ)) (format : InputFormat) (vars : Variables) (f : ScriptRunFault) (made : Failure) → IsFailureOf f made
    → IfSome known (λ bytes. (g : ScriptRunFault) → IsFirstFaultIn format bytes vars g → IsFaultUnless {T = Variables} (Err f) g)
    → IfSome known (λ bytes. (g : ScriptRunFault) → IsFirstFaultIn format bytes vars g → IsFailureUnless {T = Variables} (Err made) g)
only None format vars f made is h = tt
only (Some bytes) format vars f made is h = λ g first. unless f g made is (h g first)

no_fault : (known : Option (List ℕ)) (format : InputFormat) (vars after : Variables)
    → IfSome known (λ bytes. (g : ScriptRunFault) → IsFirstFaultIn format bytes vars g → IsFaultUnless (Ok after) g)
    → IfSome known (λ bytes. (g : ScriptRunFault) → IsFirstFaultIn format bytes vars g → IsFailureUnless (Ok after) g)
no_fault None format vars after h = tt
no_fault (Some bytes) format vars after h = λ g first. none g (h g first)
  where
    none : (g : ScriptRunFault) → IsFaultUnless (Ok after) g → IsFailureUnless (Ok after) g
    none g (inl e) = cc
    none g (inr (inl e)) = cc
    none g (inr (inr e)) = cc

pub returns-in-Ok-clause-only_fault : goal.returns-in-Ok-clause-only_fault
returns-in-Ok-clause-only_fault g c = no_fault _ c.args.format c.args.vars _ c.in-Ok.ensures.run.only_fault

pub returns-in-Err-clause-refused : goal.returns-in-Err-clause-refused
returns-in-Err-clause-refused g c = refused _ c.args.format c.args.vars c.in-Err.fault c.from_script.result c.from_script.ensures.fault c.in-Err.ensures.run.fault

pub returns-in-Err-clause-only_fault : goal.returns-in-Err-clause-only_fault
returns-in-Err-clause-only_fault g c =
    only _ c.args.format c.args.vars c.in-Err.fault c.from_script.result c.from_script.ensures.fault c.in-Err.ensures.run.only_fault
