-- Lines that tell of mounts.
use Rattle.std.proofs.Common.{◌≡◌, ◌<◌, ◌≤◌, ◌+◌, ℕ, List, [], ◌∷◌, ◌++◌, length, refl, ap, sym, ◌∙◌, arith, append_assoc}
use Rattle.std.proofs.lemmas.List.{append-nil, map-append}
use Rattle.std.specs.Prelude.{Result, Ok, Err, map}
use Rattle.partitions.specs.Cut.{lines_of}
use Rattle.partitions.specs.Mount.{MountParts, mount_parts, mount_of, ◌>>◌}
use Rattle.partitions.specs.Mounts.{mounts_of, mounts_from, with_line}
use Rattle.partitions.specs.Adding.{AddsMount, IsLineFault}
use Rattle.partitions.specs.declared.mount.Mount.{Mount}
use Rattle.partitions.specs.declared.fault.MountsFault.{MountsFault}

-- what was read before, in front of the mounts of the other lines
abbrev pub behind : List MountParts → Result (List MountParts) MountsFault → Result (List MountParts) MountsFault
behind front others = others >> λ more. Ok (front ++ more)

behind_more : (front : List MountParts) (mount : MountParts) (others : Result (List MountParts) MountsFault)
    → behind front (others >> λ more. Ok (mount ∷ more)) ≡ behind (front ++ mount ∷ []) others
behind_more front mount (Err fault) = refl
behind_more front mount (Ok more) = ap (λ (mounts : List MountParts). Ok mounts) (sym (append_assoc front (mount ∷ []) more))

-- so much of a text is read
pub record IsReading (text rest : List ℕ) (mounts : List Mount) (number : ℕ) : Type 0 where
  pub so_far : mounts_of text ≡ behind (map mount_parts mounts) (mounts_from number (lines_of rest))
  pub count : number + length rest ≤ length text + 1

-- one line more
adds : (line : List ℕ) (lines : List (List ℕ)) (number : ℕ) (old new : List Mount) → AddsMount line old new
    → behind (map mount_parts old) (mounts_from number (line ∷ lines)) ≡ behind (map mount_parts new) (mounts_from (number + 1) lines)
adds [] lines number old new h = ap (λ (mounts : List Mount). behind (map mount_parts mounts) (mounts_from (number + 1) lines)) (sym h)
adds (byte ∷ line) lines number old new h =
    let others = mounts_from (number + 1) lines in
    let m = mount_parts h.0 in
    let told : behind (map mount_parts old) (with_line number (mount_of (byte ∷ line)) others) ≡ behind (map mount_parts old ++ m ∷ []) others =
    rw h.1 (behind_more (map mount_parts old) m others) in
    told ∙ ap (λ (parts : List MountParts). behind parts others) (sym (map-append mount_parts old (h.0 ∷ [])) ∙ ap (map mount_parts) (sym h.2))

pub reading_more : (text rest : List ℕ) (old new : List Mount) (number : ℕ) (line others : List ℕ) → IsReading text rest old number
    → lines_of rest ≡ line ∷ lines_of others → length others < length rest → AddsMount line old new → IsReading text others new (number + 1)
reading_more text rest old new number line others so_far cut shorter added = record {
  so_far = so_far.so_far ∙ ap (λ (lines : List (List ℕ)). behind (map mount_parts old) (mounts_from number lines)) cut
      ∙ adds line (lines_of others) number old new added;
  count = omega (arith, so_far.count, shorter);
}

pub reading_ends : (text rest : List ℕ) (old new : List Mount) (number : ℕ) (line : List ℕ) → IsReading text rest old number
    → lines_of rest ≡ line ∷ [] → AddsMount line old new → mounts_of text ≡ Ok (map mount_parts new)
reading_ends text rest old new number line so_far cut added =
    so_far.so_far ∙ ap (λ (lines : List (List ℕ)). behind (map mount_parts old) (mounts_from number lines)) cut ∙ adds line [] number old new added
    ∙ ap (λ (mounts : List MountParts). Ok mounts) (append-nil (map mount_parts new))

fails : (line : List ℕ) (lines : List (List ℕ)) (number : ℕ) (front : List MountParts) (refused : MountsFault) → IsLineFault line number refused
    → behind front (mounts_from number (line ∷ lines)) ≡ Err refused
fails [] lines number front refused h = absurd h
fails (byte ∷ line) lines number front refused h = rw h.1 (ap (λ (f : MountsFault). Err f) (sym h.2))

pub reading_fails : (text rest : List ℕ) (old : List Mount) (number : ℕ) (line : List ℕ) (lines : List (List ℕ))
    (refused : MountsFault) → IsReading text rest old number
    → lines_of rest ≡ line ∷ lines → IsLineFault line number refused → mounts_of text ≡ Err refused
reading_fails text rest old number line lines refused so_far cut bad =
    so_far.so_far ∙ ap (λ (parts : List (List ℕ)). behind (map mount_parts old) (mounts_from number parts)) cut
    ∙ fails line lines number (map mount_parts old) refused bad
