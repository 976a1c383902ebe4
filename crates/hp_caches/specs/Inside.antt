-- How contracts see a stock. This project's own.
use Rattle.hp_caches.specs.declared.stock.Stock.TheInside.{Inside}
use Rattle.hp_caches.specs.Contents.{Contents}

abbrev pub contents : Inside → Contents
contents s = record { caches = s.caches.items; list = s.list; taken = s.taken.items; put = s.put.items }
