mod IndexBits
