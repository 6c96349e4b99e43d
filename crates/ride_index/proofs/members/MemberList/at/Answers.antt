-- The list is the one that contracts see.
use Rattle.std.proofs.Common.{◌≡◌, ◌↔◌, ◌∙◌, Contains, subst}
use Rattle.ride_index.proofs.members.MemberList.at.Goals as goal

pub returns : goal.returns
returns c = λ member.
    subst (λ xs. Contains c.slice_of.result.now member ↔ (Contains xs member × (member.stop ≡ c.args.stop))) (c.as_slice.ensures ∙ c.self.view_is) (c.slice_of.ensures member)
