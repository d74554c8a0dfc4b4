use Rattle.std.proofs.Common.{[], ◌∷◌, ◌++◌, List, ℕ, refl, ◌∙◌, arith, length-append}
use Rattle.frame.specs.declared.kind.FrameKind.TheVariants.{Update}
use Rattle.frame.specs.Bytes.{head_bytes}
use Rattle.writer.proofs.Laying.{laid_behind, copy_behind}
use Rattle.writer.proofs.layout.update.Goals as goal

-- each part is laid right behind those before it
pub returns : goal.returns
returns c =
    let head = head_bytes Update c.args.head in
    let start : List ℕ = head ++ (c.args.count ∷ []) in
    let members = c.args.members.now in
    let headed = c.lay_head.ensures ∙ laid_behind _ [] head 0 refl refl in
    let started = c.lay.ensures ∙ laid_behind _ head (c.args.count ∷ []) 4 headed refl in
    let grouped = c.lay-2.ensures ∙ laid_behind _ start members 5 started refl in
    c.lay_copy.ensures ∙ copy_behind _ (start ++ members) c.args.content.now c.args.tag 12 grouped (omega (arith, length-append start members))
