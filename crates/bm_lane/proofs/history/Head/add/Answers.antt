use Rattle.std.proofs.Common.{sym, ◌∙◌, ap}
use Rattle.bm_lane.proofs.Adding.{adds_moves}
use Rattle.bm_lane.proofs.history.Head.add.Goals as goal

pub compare_exchange-found-requires : goal.compare_exchange-found-requires
compare_exchange-found-requires g c =
    let self = c.args.self.now in
    let h = self.head_is in
    let offer = c.plain-offer.ensures in
    let pen = c.no_pen-pen.ensures in (
      ap (λ w. w.tracked) h,
      sym (ap (λ w. w.book) h),
      pen.0 ∙ sym (ap (λ w. w.book) h),
      offer.0,
      rw (ap (λ w. w.key) h, pen.1, offer.1, offer.3) (adds_moves self.all.log c.args.item.now self.count (sym self.counted)),
    )
