mod Input
